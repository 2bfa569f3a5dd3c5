use Rattle.std.proofs.Common.{◌≡◌, ◌+◌, ◌*◌, ◌≤◌, length, drop}
use Rattle.idl_load.specs.Loading.{follow, visit}
use Rattle.idl_load.specs.LoadSteps.{ForStep, Keeps}
use Rattle.idl_parse.specs.Files.{include_spans}
use Rattle.idl_load.proofs.loading.+visit.Given as goal

abbrev pub decreases-include : goal.decreases-include
decreases-include g a = 3 * a.room + 1

abbrev pub decreases-follow : goal.decreases-follow
decreases-follow g a = 3 * a.room + 2

abbrev pub decreases-visit : goal.decreases-visit
decreases-visit g a = 3 * a.room

-- the includes that are left lead where all lead
abbrev pub invariant-follow-entries : goal.invariant-follow-entries
invariant-follow-entries g l =
    (length l.initial.progress.begun ≤ length l.progress.begun)
    × Keeps l.initial.progress.begun l.progress.begun
    × (g.F.Files.contents l.files ≡ g.F.Files.contents l.initial.files)
    × (g.F.Files.faults l.files ≡ g.F.Files.faults l.initial.files)
    × ForStep (g.F.Files.contents l.initial.files) l.initial.progress.begun l.progress.begun (λ read.
    follow (visit l.room read) l.file l.ast.text l.progress (include_spans (drop l.entry-index l.ast.entries))
    ≡ follow (visit l.room read) l.file l.ast.text l.initial.progress (include_spans l.ast.entries))
