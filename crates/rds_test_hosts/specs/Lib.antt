pub mod HostView
