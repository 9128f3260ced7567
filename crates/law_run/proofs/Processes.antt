-- The HARQ processes of both ends behind the groups of a journal.
use Rattle.std.proofs.Common.{◌≡◌, ◌<◌, ◌≤◌, ℕ, Bool, true, false, if◌then◌else◌, Option, List, [], ◌∷◌, ◌++◌, refl, ap}
use Rattle.std.proofs.Common.{sym, subst, arith, ◌∙◌}
use Rattle.std.specs.List.{filter}
use Rattle.air_link.specs.Lines.{submitting}
use Rattle.air_link.specs.Link.{Link, fresh as fresh_link}
use Rattle.air_link.specs.Ttis.{sleeps, tti}
use Rattle.air_record.specs.declared.line.Line.{Line}
use Rattle.air_record.specs.declared.line.Line.TheVariants as lines
use Rattle.air_record.specs.declared.line.Outcome.{Outcome}
use Rattle.air_record.specs.declared.record.Record.{Record}
use Rattle.air_record.specs.declared.record.Record.TheVariants as records
use Rattle.air_run.specs.Draining.{drained}
use Rattle.air_run.specs.Playing.{keys_or_none, acted, drains, played}
use Rattle.air_record.specs.Cells.{next_keys}
use Rattle.air_run.specs.Run.{fresh as fresh_run}
use Rattle.air_text.specs.Groups.{Group, group_records, history}
use Rattle.air_text.specs.Ranges.{IsInRange}
use Rattle.eps_sec.specs.declared.Keys.{Keys}
use Rattle.harq.specs.ReceiveHistory.{Heard as Seen, AreAnsweredRight}
use Rattle.harq.specs.Sending.{Sending, fresh}
use Rattle.harq.specs.SendHistory.{Deed, world_after, start, IsRight as AreResent}
use Rattle.harq.proofs.ReceiveLemmas.{answers_right}
use Rattle.harq.proofs.SendLemmas.{keeps_blocks}
use Rattle.l2_node.specs.End.{fresh as fresh_end}
use Rattle.l2_types.specs.declared.side.Side.{Side}
use Rattle.law_run.specs.AnyCalls.Calls as calls
use Rattle.promises.specs.Records.{is_of_run, is_of_air}
use Rattle.law_run.specs.AnyCalls.Deeds.{Entity, entity, Entities, entities, empty, cleared}
use Rattle.law_run.specs.AnyCalls.Told.{why_refused, refusals, Adds, renewed, AddsSubmitted}
use Rattle.law_run.proofs.AnyCalls.Adding.{stays}
use Rattle.law_run.proofs.AnyCalls.Calling.{calls_adds, submitting_adds}
use Rattle.law_run.proofs.AnyCalls.Advancing.{submitting_rests}
use Rattle.law_run.proofs.AnyCalls.Leaving.{calls_leave}
use Rattle.law_run.proofs.AnyCalls.Passing.{tti_adds}
use Rattle.law_run.proofs.AnyCalls.Running.{no_runs}
use Rattle.mac_pdu.specs.declared.item.Direction.{Direction}
use Rattle.mac_pdu.specs.declared.item.Direction.TheVariants.{Down, Up}
use Rattle.test_loop.specs.declared.Mode.TheVariants.{Off, A, B}
use Rattle.promises.specs.Carried.{AreBuilt, IsCarried}
use Rattle.promises.specs.Heard.{Heard, nothing_heard, hears, heard, deeds_of, empties, is_miss, loses, visits}
use Rattle.law_run.proofs.Building.{run_maximum, builds_where_none_is_held}
use Rattle.law_run.proofs.Answering.{StandsDown, down_as, down_begins, down_maximum}
use Rattle.law_run.proofs.Carrying.{KeepsBoth, both_then, both_still, both_ignore, both_turn}
use Rattle.law_run.proofs.Awarding.{StandsUp, up_as, up_begins, up_maximum}
use Rattle.law_run.proofs.Sending.{Sends, SameFlights, maximum_is}
use Rattle.law_run.proofs.Hearing.{of_air_alone, heard_then}
use Rattle.law_run.proofs.Lines.{no_air}
use Rattle.law_run.proofs.Ttis.{drained_adds}

-- ---- a line empties the processes of both ends, or they are visited, which its records tell

pub record Emptied (nb ue : Entity) (m : Link) : Type 0 where
  pub entities_are : entities m ≡ record { nb = nb; ue = ue }
  pub none_of_run : filter is_of_run m.out ≡ []
  pub none_of_air : filter is_of_air m.out ≡ []

abbrev pub LineCarries : Line → Link → Link → Type 0
LineCarries (lines.Harq maximum) l m = Emptied (empty maximum maximum) (empty maximum maximum) m
LineCarries (lines.Handover user rrc integrity) l m = Emptied (cleared (entity l.nb)) (cleared (entity l.ue)) m
LineCarries line l m = KeepsBoth (loses Up line) (entities l) (entities m) m.out

only : (l m : Link) → l.out ≡ [] → (a : Adds [] l m) → m.out ≡ a.more
only l m nothing a = a.out_is ∙ ap (λ (x : List Record). x ++ a.more) nothing

run_none : (l m : Link) → l.out ≡ [] → Adds [] l m → filter is_of_run m.out ≡ []
run_none l m nothing a = ap (λ (x : List Record). filter is_of_run x) (only l m nothing a) ∙ a.told.none_of_run

air_none : (l m : Link) → l.out ≡ [] → Adds [] l m → filter is_of_air m.out ≡ []
air_none l m nothing a = ap (λ (x : List Record). filter is_of_air x) (only l m nothing a) ∙ a.told.flown_is

rests_keep : (l m : Link) → l.out ≡ [] → Adds [] l m → entities m ≡ entities l
    → KeepsBoth false (entities l) (entities m) m.out
rests_keep l m nothing a rests =
    subst (λ (e : Entities). KeepsBoth false (entities l) e m.out) (sym rests)
    (both_still false (entities l) m.out (run_none l m nothing a) (air_none l m nothing a))

submit_keeps : (side : Side) (lcid : ℕ) (octets : List ℕ) (l m : Link) → l.out ≡ []
    → AddsSubmitted side lcid (why_refused side lcid octets l) l m → entities m ≡ entities l
    → KeepsBoth false (entities l) (entities m) m.out
submit_keeps side lcid octets l m nothing a rests =
    let why = why_refused side lcid octets l in
    let out : m.out ≡ refusals side lcid why =
    a.out_is ∙ ap (λ (x : List Record). x ++ refusals side lcid why) nothing in
    subst (λ (e : Entities). KeepsBoth false (entities l) e m.out) (sym rests)
    (both_still false (entities l) m.out (ap (λ (x : List Record). filter is_of_run x) out ∙ no_runs why side lcid)
    (ap (λ (x : List Record). filter is_of_air x) out ∙ no_air why side lcid))

tti_keeps : (up_grant : ℕ) (up : Outcome) (down_grant : ℕ) (down : Outcome) (l : Link) → l.out ≡ []
    → KeepsBoth (is_miss up.fate) (entities l) (entities (tti up_grant up down_grant down l))
    (tti up_grant up down_grant down l).out
tti_keeps up_grant up down_grant down l nothing =
    let m = tti up_grant up down_grant down l in
    let a = tti_adds up_grant up down_grant down l in
    let out : m.out ≡ records.Tti l.ttis ∷ a.more =
    a.out_is ∙ ap (λ (x : List Record). x ++ records.Tti l.ttis ∷ a.more) nothing in
    subst (λ (x : List Record). KeepsBoth (is_miss up.fate) (entities l) (entities m) x) (sym out)
    (both_turn (sleeps l.ttis l) up_grant up down_grant down l m a)

ends_ignored : (rounds : ℕ) (way : Direction) (p : ℕ) (h : Heard)
    → hears way p (records.Drained rounds) h ≡ h
ends_ignored rounds way p h = refl

drain_keeps : (grant : ℕ) (l : Link) → l.out ≡ []
    → KeepsBoth false (entities l) (entities (drains grant l)) (drains grant l).out
drain_keeps grant l nothing =
    let d = drained grant l in
    let w = drained_adds grant l nothing in
    let last = both_ignore false (entities d.link) (records.Drained w.rounds ∷ [])
    (λ way p h. ends_ignored w.rounds way p h) in
    subst (λ (x : List Record). KeepsBoth false (entities l) (entities d.link) x) (sym w.journal_is)
    (both_then false (entities l) (entities d.link) (entities d.link) w.said (records.Drained w.rounds ∷ [])
    w.adds.kept last)

call_keeps : (c : calls.Call) (l : Link) → l.out ≡ [] → entities (calls.after c l) ≡ entities l
    → KeepsBoth false (entities l) (entities (calls.after c l)) (calls.after c l).out
call_keeps c l nothing rests = rests_keep (renewed c l) (calls.after c l) nothing (calls_adds c l) rests

call_empties : (c : calls.Call) (nb ue : Entity) (l : Link) → l.out ≡ []
    → entities (calls.after c l) ≡ record { nb = nb; ue = ue } → Emptied nb ue (calls.after c l)
call_empties c nb ue l nothing are =
    record {
      entities_are = are;
      none_of_run = run_none (renewed c l) (calls.after c l) nothing (calls_adds c l);
      none_of_air = air_none (renewed c l) (calls.after c l) nothing (calls_adds c l);
    }

pub line_carries : (line : Line) (keys : Option Keys) (l : Link) → l.out ≡ [] → LineCarries line l (played line keys l)
unfolding acted
line_carries (lines.Harq maximum) keys l nothing =
    call_empties (calls.Visits maximum) (empty maximum maximum) (empty maximum maximum) l nothing
    (calls_leave (calls.Visits maximum) l)
line_carries lines.Bsr keys l nothing = call_keeps calls.Reports l nothing (calls_leave calls.Reports l)
line_carries (lines.Keys ks) keys l nothing = rests_keep l l nothing (stays l l refl) refl
line_carries (lines.Bearer config options) keys l nothing =
    call_keeps (calls.Bears config (keys_or_none keys)) l nothing
    (calls_leave (calls.Bears config (keys_or_none keys)) l)
line_carries (lines.Submit side lcid octets) keys l nothing =
    submit_keeps side lcid octets l (submitting side lcid octets l) nothing (submitting_adds side lcid octets l)
    (submitting_rests side lcid octets l).entities_are
line_carries (lines.Tti up_grant up down_grant down) keys l nothing = tti_keeps up_grant up down_grant down l nothing
line_carries (lines.Expire side lcid clock) keys l nothing =
    call_keeps (calls.Expires side lcid clock) l nothing (calls_leave (calls.Expires side lcid clock) l)
line_carries (lines.Handover user rrc integrity) keys l nothing =
    let c = calls.HandsOver (next_keys user rrc integrity (keys_or_none keys)) in
    call_empties c (cleared (entity l.nb)) (cleared (entity l.ue)) l nothing (calls_leave c l)
line_carries lines.LoopOff keys l nothing = call_keeps (calls.Loops Off) l nothing (calls_leave (calls.Loops Off) l)
line_carries (lines.LoopA size) keys l nothing =
    call_keeps (calls.Loops (A size)) l nothing (calls_leave (calls.Loops (A size)) l)
line_carries (lines.LoopB delay) keys l nothing =
    call_keeps (calls.Loops (B delay)) l nothing (calls_leave (calls.Loops (B delay)) l)
line_carries (lines.Drain grant) keys l nothing = drain_keeps grant l nothing
line_carries (lines.Forge side octets) keys l nothing =
    call_keeps (calls.Forges side octets) l nothing (calls_leave (calls.Forges side octets) l)
line_carries (lines.Discard lcid count) keys l nothing =
    call_keeps (calls.Discards lcid count) l nothing (calls_leave (calls.Discards lcid count) l)
line_carries (lines.Drx config) keys l nothing =
    call_keeps (calls.Listens config) l nothing (calls_leave (calls.Listens config) l)
line_carries lines.End keys l nothing = rests_keep l l nothing (stays l l refl) refl

-- ---- behind groups

-- what is heard of a process behind groups, and behind the line of one more
abbrev heard_of : Direction → List Group → ℕ → Heard
heard_of way past p = heard way p (history past) nothing_heard

abbrev begun_by : Direction → List Group → Group → ℕ → Heard
begun_by way past g p = hears way p (records.Line g.number g.line) (heard_of way past p)

pub record Both (past : List Group) (l : Link) : Type 0 where
  pub some : 1 ≤ visits past
  pub down : StandsDown (visits past) l.nb.sender l.ue.receiver (heard_of Down past)
  pub up : StandsUp (visits past) l.ue.sender l.nb.receiver (heard_of Up past)

-- the line's own record is heard first
line_first : (way : Direction) (past : List Group) (g : Group) (told : List Record) → g.events ≡ told
    → SameFlights (λ p. heard way p told (begun_by way past g p)) (heard_of way (g ∷ past))
line_first way past g told out p =
    ap (λ (h : Heard). h.flights) (heard_then way p (history past) (group_records g) nothing_heard)
    ∙ ap (λ (x : List Record). (heard way p x (begun_by way past g p)).flights) out

both_go : (past : List Group) (g : Group) (l m : Link) → g.events ≡ m.out → empties g.line ≡ false
    → visits (g ∷ past) ≡ visits past → KeepsBoth (loses Up g.line) (entities l) (entities m) m.out → Both past l
    → Both (g ∷ past) m
both_go past g l m out e same k b =
    let n = visits past in
    let stays : (way : Direction) → SameFlights (heard_of way past) (begun_by way past g) =
    λ way p. ap (λ (x : Bool). if x then [] else (heard_of way past p).flights) e in
    record {
      some = subst (λ (x : ℕ). 1 ≤ x) (sym same) b.some;
      down = subst (λ (x : ℕ). StandsDown x m.nb.sender m.ue.receiver (heard_of Down (g ∷ past))) (sym same)
          (down_as n m.nb.sender m.ue.receiver (λ p. heard Down p m.out (begun_by Down past g p))
          (heard_of Down (g ∷ past)) (line_first Down past g m.out out)
          (k.down n (begun_by Down past g)
          (down_as n l.nb.sender l.ue.receiver (heard_of Down past) (begun_by Down past g) (stays Down) b.down)));
      up = subst (λ (x : ℕ). StandsUp x m.ue.sender m.nb.receiver (heard_of Up (g ∷ past))) (sym same)
          (up_as n m.ue.sender m.nb.receiver (λ p. heard Up p m.out (begun_by Up past g p)) (heard_of Up (g ∷ past))
          (line_first Up past g m.out out)
          (k.up n (begun_by Up past g) b.some (λ p. refl)
          (up_as n l.ue.sender l.nb.receiver (heard_of Up past) (begun_by Up past g) (stays Up) b.up)));
    }

both_begin : (past : List Group) (g : Group) (n : ℕ) (m : Link) → g.events ≡ m.out → empties g.line ≡ true
    → visits (g ∷ past) ≡ n → 1 ≤ n → Emptied (empty n n) (empty n n) m → Both (g ∷ past) m
both_begin past g n m out e same some k =
    let none : (way : Direction) (p : ℕ) → (heard_of way (g ∷ past) p).flights ≡ [] =
    λ way p.
    line_first way past g m.out out p
    ∙ ap (λ (h : Heard). h.flights) (of_air_alone way p m.out k.none_of_run (begun_by way past g p)
    ∙ ap (λ (x : List Record). heard way p x (begun_by way past g p)) k.none_of_air)
    ∙ ap (λ (x : Bool). if x then [] else (heard_of way past p).flights) e in
    record {
      some = subst (λ (x : ℕ). 1 ≤ x) (sym same) some;
      down = subst (λ (x : ℕ). StandsDown x m.nb.sender m.ue.receiver (heard_of Down (g ∷ past))) (sym same)
          (subst (λ (x : Entities). StandsDown n x.nb.sender x.ue.receiver (heard_of Down (g ∷ past)))
          (sym k.entities_are) (down_begins n (heard_of Down (g ∷ past)) (none Down)));
      up = subst (λ (x : ℕ). StandsUp x m.ue.sender m.nb.receiver (heard_of Up (g ∷ past))) (sym same)
          (subst (λ (x : Entities). StandsUp n x.ue.sender x.nb.receiver (heard_of Up (g ∷ past)))
          (sym k.entities_are) (up_begins n (heard_of Up (g ∷ past)) (none Up)));
    }

grows_by : (line : Line) (number : ℕ) (events : List Record) (past : List Group) (l m : Link) → events ≡ m.out
    → IsInRange line → LineCarries line l m → Both past l
    → Both (record { number = number; line = line; events = events } ∷ past) m
grows_by (lines.Harq maximum) number events past l m out fits k b =
    both_begin past (record { number = number; line = lines.Harq maximum; events = events }) maximum m out refl refl
    fits.some k
grows_by (lines.Handover user rrc integrity) number events past l m out fits k b =
    let n = visits past in
    let nb : cleared (entity l.nb) ≡ empty n n =
    rw (
      maximum_is Down n l.nb.sender (heard_of Down past) b.down.sends,
      up_maximum n l.ue.sender l.nb.receiver (heard_of Up past) b.up,
    ) refl in
    let ue : cleared (entity l.ue) ≡ empty n n =
    rw (
      maximum_is Up n l.ue.sender (heard_of Up past) b.up.sends,
      down_maximum n l.nb.sender l.ue.receiver (heard_of Down past) b.down,
    ) refl in
    both_begin past (record { number = number; line = lines.Handover user rrc integrity; events = events }) n m out
    refl refl b.some
    (subst (λ (e : Entity). Emptied e (empty n n) m) nb
    (subst (λ (e : Entity). Emptied (cleared (entity l.nb)) e m) ue k))
grows_by lines.Bsr number events past l m out fits k b = both_go past _ l m out refl refl k b
grows_by (lines.Keys keys) number events past l m out fits k b = both_go past _ l m out refl refl k b
grows_by (lines.Bearer config options) number events past l m out fits k b = both_go past _ l m out refl refl k b
grows_by (lines.Submit side lcid octets) number events past l m out fits k b = both_go past _ l m out refl refl k b
grows_by (lines.Tti up_grant up down_grant down) number events past l m out fits k b =
    both_go past _ l m out refl refl k b
grows_by (lines.Expire side lcid clock) number events past l m out fits k b = both_go past _ l m out refl refl k b
grows_by lines.LoopOff number events past l m out fits k b = both_go past _ l m out refl refl k b
grows_by (lines.LoopA size) number events past l m out fits k b = both_go past _ l m out refl refl k b
grows_by (lines.LoopB delay) number events past l m out fits k b = both_go past _ l m out refl refl k b
grows_by (lines.Drain grant) number events past l m out fits k b = both_go past _ l m out refl refl k b
grows_by (lines.Forge side octets) number events past l m out fits k b = both_go past _ l m out refl refl k b
grows_by (lines.Discard lcid count) number events past l m out fits k b = both_go past _ l m out refl refl k b
grows_by (lines.Drx config) number events past l m out fits k b = both_go past _ l m out refl refl k b
grows_by lines.End number events past l m out fits k b = both_go past _ l m out refl refl k b

pub first : Both [] fresh_run.link
unfolding fresh_run fresh_link fresh_end
first = record {
  some = omega arith;
  down = down_begins 4 (heard_of Down []) (λ p. refl);
  up = up_begins 4 (heard_of Up []) (λ p. refl);
}

pub grows : (g : Group) (past : List Group) (keys : Option Keys) (l : Link) → l.out ≡ []
    → g.events ≡ (played g.line keys l).out → IsInRange g.line → Both past l → Both (g ∷ past) (played g.line keys l)
grows g past keys l nothing out fits b =
    grows_by g.line g.number g.events past l (played g.line keys l) out fits (line_carries g.line keys l nothing) b

-- ---- what is promised of them

resent : (way : Direction) (n : ℕ) (s : Sending) (h : ℕ → Heard) → 1 ≤ n → Sends way n s h → (p : ℕ) → p < 8
    → AreResent n (deeds_of (h p).flights)
unfolding fresh
resent way n s h some a p lt =
    subst (λ (x : List Deed). AreResent n x) (sym (a.deeds_are p))
    (subst (λ (m : ℕ). AreResent m ((world_after a.steps (start n)).past p)) (run_maximum a.steps (start n))
    ((keeps_blocks n a.steps some).is_right p lt))

pub is_carried : (past : List Group) (l : Link) → Both past l → IsCarried past
is_carried past l b =
    let n = visits past in
    record {
      down_resent = resent Down n l.nb.sender (heard_of Down past) b.some b.down.sends;
      down_built = λ p lt. subst (λ (x : List Deed). AreBuilt n x) (sym (b.down.sends.deeds_are p))
          (builds_where_none_is_held n b.down.sends.steps b.some b.down.sends.are_of p lt);
      down_answered =
          λ p lt. subst (λ (x : List Seen). AreAnsweredRight x) (sym (b.down.seen_are p lt))
          (answers_right n b.down.came p lt);
      up_resent = resent Up n l.ue.sender (heard_of Up past) b.some b.up.sends;
      up_visits = λ p lt. b.up.visits_are p lt;
    }
