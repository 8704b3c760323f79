-- The doors. To believe: Doors.
pub mod Doors
