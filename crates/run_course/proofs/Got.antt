-- A packet more that the caller got.
use Rattle.std.proofs.Common.{◌≡◌, ◌⊎◌, inl, inr, ℕ, true, List, [], ◌∷◌, ◌++◌, length, Option, Some, None, refl, sym, ap, ◌∙◌, subst}
use Rattle.std.specs.Prelude.{slice_get}
use Rattle.std.specs.List.{list_any}
use Rattle.script_session.specs.declared.link_log.GotRow.{GotRow}
use Rattle.rpc_packet.specs.Packets.{read_response}
use Rattle.rpc_packet.specs.declared.response.Response.{Response}
use Rattle.script_session.specs.declared.session.Session.{Session}
use Rattle.run_course.specs.Courses.{Link, Course, Desk, link_of, with_desk, named_id, is_open_under, is_late, is_used, came, came_as}
use Rattle.run_course.specs.Legal.{got_of, got_at}
use Rattle.run_course.proofs.Lists.{get_append, get_last, get_snoc, same_or_other, of_cond}
use Rattle.run_course.proofs.Links.{link_here, link_there}

-- what was got stays, and one packet follows
pub record Adds (old new : Course) (node : ℕ) (row : GotRow) : Type 0 where
  pub kept : (j k : ℕ) (r : GotRow) → slice_get (got_at old j) k ≡ Some r → slice_get (got_at new j) k ≡ Some r
  pub last : slice_get (got_at new node) (length (got_at old node)) ≡ Some row
  pub back : (j k : ℕ) (r : GotRow) → slice_get (got_at new j) k ≡ Some r → (slice_get (got_at old j) k ≡ Some r) ⊎ ((j ≡ node) × (k ≡ length (got_at old node)) × (row ≡ r))

pub adds_from : (old new : Course) (node : ℕ) (row : GotRow) → got_at new node ≡ got_at old node ++ row ∷ []
    → ((j : ℕ) → (j ≡ node → ⊥) → got_at new j ≡ got_at old j) → Adds old new node row
adds_from old new node row here others =
    record {
      kept = λ j k r e. stays j k r e (same_or_other j node);
      last = ap (λ g. slice_get g (length (got_at old node))) here ∙ get_last (got_at old node) row;
      back = λ j k r e. came_from j k r e (same_or_other j node);
    }
  where
    stays : (j k : ℕ) (r : GotRow) → slice_get (got_at old j) k ≡ Some r → (j ≡ node) ⊎ (j ≡ node → ⊥) → slice_get (got_at new j) k ≡ Some r
    stays j k r e (inl same) =
        subst (λ i. slice_get (got_at new i) k ≡ Some r) (sym same)
        (ap (λ g. slice_get g k) here ∙ get_append (got_at old node) (row ∷ []) k r (subst (λ i. slice_get (got_at old i) k ≡ Some r) same e))
    stays j k r e (inr other) = ap (λ g. slice_get g k) (others j other) ∙ e

    of_last : (j k : ℕ) (r : GotRow) → j ≡ node → (slice_get (got_at old node) k ≡ Some r) ⊎ ((k ≡ length (got_at old node)) × (row ≡ r))
        → (slice_get (got_at old j) k ≡ Some r) ⊎ ((j ≡ node) × (k ≡ length (got_at old node)) × (row ≡ r))
    of_last j k r same (inl before) = inl (subst (λ i. slice_get (got_at old i) k ≡ Some r) (sym same) before)
    of_last j k r same (inr at_last) = inr (same, at_last.0, at_last.1)

    came_from : (j k : ℕ) (r : GotRow) → slice_get (got_at new j) k ≡ Some r → (j ≡ node) ⊎ (j ≡ node → ⊥)
        → (slice_get (got_at old j) k ≡ Some r) ⊎ ((j ≡ node) × (k ≡ length (got_at old node)) × (row ≡ r))
    came_from j k r e (inl same) =
        of_last j k r same (get_snoc (got_at old node) row r k (sym (ap (λ g. slice_get g k) here) ∙ subst (λ i. slice_get (got_at new i) k ≡ Some r) same e))
    came_from j k r e (inr other) = inl (sym (ap (λ g. slice_get g k) (others j other)) ∙ e)

-- what is got where a desk stands at a node
pub desk_here : (c : Course) (node : ℕ) (link : Link) → link_of node c.links ≡ Some link → (d : Desk) → got_at (with_desk c node d) node ≡ d.link.got
desk_here c node link e d = ap got_of (link_here node (λ l. d.link) c.links link e)

pub desk_there : (c : Course) (node j : ℕ) (d : Desk) → (j ≡ node → ⊥) → got_at (with_desk c node d) j ≡ got_at c j
desk_there c node j d other = ap got_of (link_there node j (λ l. d.link) c.links other)

pub desk_adds : (c : Course) (node : ℕ) (link : Link) → link_of node c.links ≡ Some link → (d e : Desk) (row : GotRow)
    → e.link.got ≡ d.link.got ++ row ∷ [] → Adds (with_desk c node d) (with_desk c node e) node row
desk_adds c node link found d e row more =
    adds_from (with_desk c node d) (with_desk c node e) node row
    (desk_here c node link found e ∙ (more ∙ ap (λ g. g ++ row ∷ []) (sym (desk_here c node link found d))))
    (λ j other. desk_there c node j e other ∙ sym (desk_there c node j d other))

-- what holds of a late packet and of one that is used holds of each that comes
pub came_by : (s : Session) (node : ℕ) (Q : Desk → Type 0) (d : Desk) (packet : List ℕ) → Q (is_late d packet)
    → ((r : Response) → read_response packet ≡ Some r → list_any (is_open_under (named_id r.id)) d.calls ≡ true → Q (is_used node d packet r))
    → Q (came s node d packet)
unfolding came
came_by s node Q d packet late used = go (read_response packet) refl
  where
    go : (o : Option Response) → read_response packet ≡ o → Q (came_as node d packet o)
    go None e = late
    go (Some r) e = of_cond (list_any (is_open_under (named_id r.id)) d.calls) Q (is_used node d packet r) (is_late d packet) (λ any. used r e any) (λ none. late)
