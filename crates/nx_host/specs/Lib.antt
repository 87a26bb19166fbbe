-- ---- what a reader must believe: files, output and URIs, the paths that these name, and where bytes stop being text
pub mod Files
pub mod Out
pub mod Count
pub mod Uri
pub mod PathUri
pub mod DiskPath
pub mod DiskRoot
pub mod Utf8
-- ---- the objects that stand for them: the disk, and those in memory for tests
pub mod Disk
pub mod Table
pub mod MemFiles
pub mod MemOut
pub mod Calls
