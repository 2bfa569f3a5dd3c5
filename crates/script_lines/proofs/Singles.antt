-- Lines without a fault say each header at most once.
use Rattle.std.proofs.Common.{◌≡◌, ℕ, Bool, true, false, not, List, [], ◌∷◌, ◌++◌, Option, Some, None, refl, sym, subst, ◌∙◌, append_assoc, append-nil}
use Rattle.std.specs.Prelude.{is_some}
use Rattle.std.specs.List.{list_any}
use Rattle.script_lines.specs.Lines.{TextLine}
use Rattle.script_lines.specs.Forms.{HeaderForm, client, server, interface, object, servant, queue, Said, skipped, header, event, Says}
use Rattle.script_lines.specs.Faults.{Line, is_object, is_again, HasNoFault}
use Rattle.script_lines.specs.Scripts.{AreRead, one_of, said_by, clients, servers, interfaces, objects, queues}
use Rattle.script_lines.specs.KeptSteps.{keep_line, is_empty_list}
use Rattle.script_lines.specs.declared.fault.ScriptWhy.TheVariants.{Twice}
use Rattle.script_lines.proofs.KeptOf.{first_of, read_objects, kept_of, is_sound, AreSound, sound_next, said_next, any_says, any_object, is_kept, any_again}
use Rattle.script_lines.proofs.LineLaws.{line_gives, first_none}
use Rattle.script_lines.proofs.WalkLaws.{line_kept}

abbrev pub IsSingle : {X : Type 0} → List X → Type 0
IsSingle xs = xs ≡ one_of (first_of xs)

pub record Singles (lines : List Line) : Type 0 where
  pub client : IsSingle (said_by clients lines)
  pub server : IsSingle (said_by servers lines)
  pub interface : IsSingle (said_by interfaces lines)
  pub object : IsSingle (said_by objects lines)
  pub queue : IsSingle (said_by queues lines)

-- the same with what a line more says
record SinglesNext (lines : List Line) (at : ℕ) (said : Said) : Type 0 where
  pub client : IsSingle (said_by clients lines ++ clients at said)
  pub server : IsSingle (said_by servers lines ++ servers at said)
  pub interface : IsSingle (said_by interfaces lines ++ interfaces at said)
  pub object : IsSingle (said_by objects lines ++ objects at said)
  pub queue : IsSingle (said_by queues lines ++ queues at said)

keep : {X : Type 0} (xs : List X) → IsSingle xs → IsSingle (xs ++ [])
keep xs single = subst IsSingle (sym (append-nil xs)) single

new : {X : Type 0} (xs ys : List X) → xs ≡ [] → IsSingle ys → IsSingle (xs ++ ys)
new xs ys none single = rw none single

one_single : {X : Type 0} (o : Option X) → IsSingle (one_of o)
one_single None = refl
one_single (Some x) = refl

not_empty : {X : Type 0} (xs : List X) → not (is_empty_list xs) ≡ false → xs ≡ []
not_empty [] e = refl
not_empty (x ∷ xs) e = cc

object_says : (at : ℕ) (said : Said) → is_sound said ≡ true → is_object said ≡ not (is_empty_list (objects at said))
object_says at skipped is = refl
object_says at (header (client file)) is = refl
object_says at (header (server file)) is = refl
object_says at (header (interface home name)) is = refl
object_says at (header (object text)) is = refl
object_says at (header (servant func rule)) is = refl
object_says at (header (queue capacity timeout)) is = refl
object_says at (event form) is = refl

-- an object is read exactly where its text stands
pub no_text : (lines : List Line) → AreSound lines → is_some (first_of (said_by read_objects lines)) ≡ false → said_by objects lines ≡ []
no_text lines sound none = not_empty (said_by objects lines) (sym (any_says is_object objects object_says lines sound) ∙ any_object lines sound ∙ none)

abbrev IsFree : List Line → Said → Type 0
IsFree lines said = (form : HeaderForm) → said ≡ header form → is_kept form (kept_of lines) ≡ false

singles_next : (lines : List Line) (at : ℕ) (said : Said) → AreSound lines → IsFree lines said → Singles lines → SinglesNext lines at said
singles_next lines at skipped sound free s = record { client = keep _ s.client; server = keep _ s.server; interface = keep _ s.interface; object = keep _ s.object; queue = keep _ s.queue }
singles_next lines at (event form) sound free s = record { client = keep _ s.client; server = keep _ s.server; interface = keep _ s.interface; object = keep _ s.object; queue = keep _ s.queue }
singles_next lines at (header (client file)) sound free s = record {
  client = new _ _ (first_none (said_by clients lines) (free (client file) refl)) refl;
  server = keep _ s.server;
  interface = keep _ s.interface;
  object = keep _ s.object;
  queue = keep _ s.queue;
}
singles_next lines at (header (server file)) sound free s = record {
  server = new _ _ (first_none (said_by servers lines) (free (server file) refl)) refl;
  client = keep _ s.client;
  interface = keep _ s.interface;
  object = keep _ s.object;
  queue = keep _ s.queue;
}
singles_next lines at (header (interface home name)) sound free s = record {
  interface = new _ _ (first_none (said_by interfaces lines) (free (interface home name) refl)) refl;
  client = keep _ s.client;
  server = keep _ s.server;
  object = keep _ s.object;
  queue = keep _ s.queue;
}
singles_next lines at (header (object text)) sound free s = record {
  object = new _ _ (no_text lines sound (free (object text) refl)) refl;
  client = keep _ s.client;
  server = keep _ s.server;
  interface = keep _ s.interface;
  queue = keep _ s.queue;
}
singles_next lines at (header (servant func rule)) sound free s = record { client = keep _ s.client; server = keep _ s.server; interface = keep _ s.interface; object = keep _ s.object; queue = keep _ s.queue }
singles_next lines at (header (queue capacity timeout)) sound free s = record {
  queue = new _ _ (first_none (said_by queues lines) (free (queue capacity timeout) refl)) (one_single _);
  client = keep _ s.client;
  server = keep _ s.server;
  interface = keep _ s.interface;
  object = keep _ s.object;
}

single_more : (lines : List Line) (line : Line) → AreSound lines → IsFree lines line.said → Singles lines → Singles (lines ++ line ∷ [])
single_more lines line sound free s =
    let n = singles_next lines line.at line.said sound free s in
    record {
      client = subst IsSingle (sym (said_next clients lines line)) n.client;
      server = subst IsSingle (sym (said_next servers lines line)) n.server;
      interface = subst IsSingle (sym (said_next interfaces lines line)) n.interface;
      object = subst IsSingle (sym (said_next objects lines line)) n.object;
      queue = subst IsSingle (sym (said_next queues lines line)) n.queue;
    }

not_again : (b : Bool) → ((b ≡ true) → ⊥) → b ≡ false
not_again true none = absurd (none refl)
not_again false none = refl

free_line : (lines : List Line) (bytes : List ℕ) (said : Said) → AreSound lines → Says bytes said → HasNoFault lines bytes → IsFree lines said
free_line lines bytes said sound says none form is =
    let here : Says bytes (header form) = subst (Says bytes) is says in
    sym (any_again form lines sound) ∙ not_again (list_any (λ line. is_again form line.said) lines) (λ again. none Twice (form, here, again))

single_all : (earlier : List Line) (texts : List TextLine) (lines : List Line) → AreSound earlier → Singles earlier → AreRead earlier texts lines → Singles (earlier ++ lines)
single_all earlier [] [] sound s read = subst Singles (sym (append-nil earlier)) s
single_all earlier [] (line ∷ lines) sound s read = absurd read
single_all earlier (text ∷ texts) [] sound s read = absurd read
single_all earlier (text ∷ texts) (line ∷ lines) sound s read =
    let k = line_kept earlier text.at text.bytes line.said read.1 read.2 (keep_line text.at text.bytes (kept_of earlier)) (line_gives earlier text.at text.bytes sound) in
    let next = single_more earlier line sound (free_line earlier text.bytes line.said sound read.1 read.2) s in
    subst Singles (append_assoc earlier (line ∷ []) lines) (single_all (earlier ++ line ∷ []) texts lines (sound_next earlier line sound k.1) next read.3)

pub singles : (texts : List TextLine) (lines : List Line) → AreRead [] texts lines → Singles lines
singles texts lines read = single_all [] texts lines tt (record { client = refl; server = refl; interface = refl; object = refl; queue = refl }) read
