-- There is one link, and its log is the one of the report.
use Rattle.std.proofs.Common.{◌≡◌, ◌+◌, ℕ, zero, suc, List, [], ◌∷◌, Some, refl, sym, ap, ◌∙◌, subst, arith}
use Rattle.std.specs.Prelude.{slice_get}
use Rattle.script_session.specs.Sessions.{NODE}
use Rattle.script_session.specs.declared.link_log.LinkLog.{LinkLog}
use Rattle.script_session.specs.declared.session.Event.{Event}
use Rattle.script_session.specs.declared.session.Event.TheVariants.{Call, Serve, Work, Deliver, Close}
use Rattle.script_session.specs.declared.session.Session.{Session}
use Rattle.run_course.specs.Courses.{Link, Course, link_of, at_node, unused, start, sends, sent_row, next_id, serves, worked, came, step}
use Rattle.run_course.specs.Planned.{link_log, logs_from, ended, report_of}
use Rattle.run_course.specs.LegalReports.{IsLogAt}
use Rattle.run_course.proofs.Lists.{fold_keeps, some_same, none_some}
use Rattle.run_course.proofs.Events.{called_by, deliver_by}

-- ---- one link

abbrev pub IsOne : List Link → Type 0
IsOne links = (link : Link) × (links ≡ link ∷ [])

one_at : (k : ℕ) (change : Link → Link) (link : Link) → IsOne (at_node k change (link ∷ []))
one_at zero change link = (link, refl)
one_at (suc zero) change link = (change link, refl)
one_at (suc (suc k)) change link = (link, refl)

one_still : (k : ℕ) (change : Link → Link) (links : List Link) → IsOne links → IsOne (at_node k change links)
one_still k change links one = subst (λ (ls : List Link). IsOne (at_node k change ls)) (sym one.1) (one_at k change one.0)

step_one : (s : Session) (c : Course) (event : Event) → IsOne c.links → IsOne (step s c event).links
step_one s c (Call spec) one =
    called_by s c spec (λ (d : Course). IsOne d.links) (λ full. one) (λ room late. one)
    (λ room open_still. one_still NODE (sends (sent_row s spec (next_id c.calls))) c.links one)
step_one s c (Serve node bytes) one = one_still node (serves s c.moment bytes) c.links one
step_one s c (Work node) one = one_still node (worked s c.moment) c.links one
step_one s c (Deliver node bytes) one =
    deliver_by s c node bytes (λ (d : Course). IsOne d.links) one
    (λ link found to. one_still node _ c.links one)
    (λ link found d packet holds. one_still node (λ l. (came s node d packet).link) c.links one)
step_one s c Close one = one

pub runs_one : (s : Session) (events : List Event) → IsOne (ended s events).links
unfolding ended
runs_one s events = fold_keeps (λ (c : Course). IsOne c.links) (step s) (λ c event one. step_one s c event one) events start (unused, refl)

-- ---- the logs of links

place_log : (n k node : ℕ) (links : List Link) (log : LinkLog) → slice_get (logs_from n links) k ≡ Some log → node ≡ n + k
    → (link : Link) × (slice_get links k ≡ Some link) × (log ≡ link_log node link)
place_log n k node [] log e at = absurd (none_some log e)
place_log n zero node (link ∷ links) log e at =
    (link, refl, sym (some_same (link_log n link) log e) ∙ ap (λ i. link_log i link) (go n node at))
  where
    go : (n node : ℕ) → node ≡ n + 0 → n ≡ node
    go n node at = omega (arith, at)
place_log n (suc k) node (link ∷ links) log e at = place_log (suc n) k node links log e (go n k node at)
  where
    go : (n k node : ℕ) → node ≡ n + suc k → node ≡ suc n + k
    go n k node at = omega (arith, at)

-- each log is that of a link
pub log_is : (s : Session) (c : Course) (node : ℕ) (log : LinkLog) → IsLogAt (report_of s c) node log → (link : Link) × (link_of node c.links ≡ Some link) × (log ≡ link_log node link)
log_is s c zero log e = absurd (none_some log e)
log_is s c (suc k) log e = place_log 1 k (suc k) c.links log e (omega arith)

-- the one log
pub one_log : (s : Session) (c : Course) → IsOne c.links → (link : Link) × ((report_of s c).links ≡ link_log NODE link ∷ [])
one_log s c one = (one.0, ap (λ ls. logs_from 1 ls) one.1)
