-- For the proofs: what the functions of src/ return to one another.
use Rattle.std.specs.Prelude.{◌≡◌, ℕ, Bool, ◌&&◌, List, Result, Ok, Err}
use Rattle.std.specs.declared.vec.Vec.{Vec}
use Rattle.std.specs.Str.{bytes_eq}
use Rattle.schema_files.specs.LoadAnswers.{IsRefusedBy}
use Rattle.schema_files.specs.declared.load_fault.LoadFault.{LoadFault}
use Rattle.schema_files.specs.declared.load_fault.LoadFault.TheVariants.{Refused, Read, Memory}
use Rattle.struct_files.specs.Answers.{TextAnswer, done}
use Rattle.struct_files.specs.Answers as answer
use Rattle.struct_files.specs.Decoding.{refuse_line}
use Rattle.struct_files.specs.Finding as finding
use Rattle.struct_files.specs.Finding.{Finds}
use Rattle.struct_files.specs.Opening.{Opens, opened, refused}
use Rattle.struct_files.specs.declared.finding.Found.{Found}
use Rattle.struct_files.specs.declared.opening.Opened.{Opened}
use Rattle.tars_base.specs.Contents.{Contents, Held}
use Rattle.tars_decode.specs.declared.refuse.Refuse.{Refuse}
use Rattle.tars_decode.specs.declared.refuse.Refuse.TheVariants as refuse
use Rattle.tars_model.specs.declared.struct_desc.StructDesc.{StructDesc}

-- a struct of this module and name
abbrev pub is_struct : List ℕ → List ℕ → StructDesc → Bool
is_struct home name s = bytes_eq home s.«module» && bytes_eq name s.name

-- what is found, or a refusal, is what looking for the struct gives; a failed read and want of memory say nothing of it
abbrev pub IsFound : Contents → List ℕ → List ℕ → List ℕ → Result Found LoadFault → Type 0
IsFound contents file home name (Ok f) = Finds contents file home name (finding.found f.schema f.number)
IsFound contents file home name (Err (Refused line)) = Finds contents file home name (finding.refused line)
IsFound contents file home name (Err Read) = Unit {0}
IsFound contents file home name (Err Memory) = Unit {0}

-- the same of what is opened, and of what opening the files gives
abbrev pub IsOpened : Held → List ℕ → List ℕ → List ℕ → List ℕ → Result Opened LoadFault → Type 0
IsOpened held file home name values (Ok o) = Opens held file home name values (opened o.schema o.number o.text.items)
IsOpened held file home name values (Err (Refused line)) = Opens held file home name values (refused line)
IsOpened held file home name values (Err Read) = Unit {0}
IsOpened held file home name values (Err Memory) = Unit {0}

-- a line or a refusal is what a text comes to; no file is read for it
abbrev pub IsComing : {A : Type 0} → (TextAnswer → Type 0) → Result (Vec ℕ A) LoadFault → Type 0
IsComing Comes (Ok line) = Comes (done line.items)
IsComing Comes (Err (Refused line)) = Comes (answer.refused line)
IsComing Comes (Err Read) = ⊥
IsComing Comes (Err Memory) = Unit {0}

-- what bytes that give no values are to one who reads them from a file
abbrev pub IsRefusing : List ℕ → Refuse → LoadFault → Type 0
IsRefusing file refuse.Memory fault = fault ≡ Memory
IsRefusing file why fault = IsRefusedBy (refuse_line file why) fault
