pub mod Rails
