use Rattle.std.proofs.Common.{◌≡◌, map, drop}
use Rattle.tars_base.specs.MemFiles.{contents_of, named}
use Rattle.tars_base.proofs.mem_files.bytes_of.Given as goal

-- what is left of the files has the answer
abbrev pub invariant-loop-file : goal.invariant-loop-file
invariant-loop-file l =
    contents_of (map named (drop l.file-index l.files)) l.name ≡ contents_of (map named l.files) l.name
