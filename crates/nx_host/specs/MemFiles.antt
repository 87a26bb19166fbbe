-- What a `MemFiles` shows.
use Rattle.nx_host.specs.declared.calls.Calls.{Calls}
use Rattle.nx_host.specs.declared.memory_files.MemFiles.{MemFiles}
use Rattle.nx_host.specs.Table.{Table}

-- the bytes under each URI
abbrev pub files_in : MemFiles → Table
files_in memory = memory.table

-- the calls made so far, those that are to fail, and how many did
abbrev pub calls_of : MemFiles → Calls
calls_of memory = memory.calls
