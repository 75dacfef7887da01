pub mod Elementary
