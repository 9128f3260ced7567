-- What both ends of a link are called in a TTI of a drain: nothing that submits an SDU, and nothing that begins a life.
use Rattle.std.proofs.Common.{◌≡◌, ◌≤◌, ℕ, ◌==◌, Bool, true, false, if◌then◌else◌, List, [], ◌∷◌, ◌++◌, refl}
use Rattle.std.proofs.Common.{ap, sym, Some, None}
use Rattle.std.proofs.Common.{subst, ◌∙◌, arith}
use Rattle.std.proofs.lemmas.Bool.Decides.{nat_tests}
use Rattle.std.specs.List.{AllByRecursion}
use Rattle.air_link.specs.Downlink.{builds, built_ndi, block_at, sends, feeds, told_as, is_good, answer, comes}
use Rattle.air_link.specs.Downlink.{receives, hears, hears_by, lands, unseen, down_order, down_by, downlink}
use Rattle.air_link.specs.Draining.{drain_tti}
use Rattle.air_link.specs.Link.{Link, says, with_end}
use Rattle.air_link.specs.Loops.{loops}
use Rattle.air_link.specs.Uplink.{aired, awake, granted, hears_if, up_by, passes, grants, uplink}
use Rattle.air_record.specs.Outcomes.{intact, turned}
use Rattle.air_record.specs.declared.line.Fate.{Fate}
use Rattle.air_record.specs.declared.line.Fate.TheVariants.{Ok, Bad, Miss}
use Rattle.air_record.specs.declared.line.Outcome.{Outcome}
use Rattle.air_record.specs.declared.record.Arrived.TheVariants as arriveds
use Rattle.air_record.specs.declared.record.Record.TheVariants as records
use Rattle.bearer_types.specs.Sides.{sent_by}
use Rattle.harq.specs.Receiving.{grant_ndi}
use Rattle.harq.specs.Sending.{after_feedback}
use Rattle.harq.specs.declared.receiver.Answer.{Answer}
use Rattle.harq.specs.declared.receiver.Answer.TheVariants.{Up as HandedUp, Again, Damaged, Nothing}
use Rattle.harq.specs.declared.sender.Order.{Order}
use Rattle.harq.specs.declared.sender.Order.TheVariants.{Grant}
use Rattle.harq.specs.declared.sender.Visit.{Visit}
use Rattle.harq.specs.declared.sender.Visit.TheVariants.{New, Resend, Silent as Quiet}
use Rattle.l2_node.specs.Building.{IsEnough, visit, built}
use Rattle.l2_node.specs.End.{End}
use Rattle.l2_node.specs.Hearing.{received}
use Rattle.l2_types.specs.declared.side.Side.{Side}
use Rattle.l2_types.specs.declared.side.Side.TheVariants.{Nb, Ue}
use Rattle.mac_pdu.specs.declared.item.Direction.TheVariants.{Up}
use Rattle.law_node.specs.Calls.{Turn, Call as EndCall, SetVisits, SetReports, Add, Submit, SetDiscard, Tick}
use Rattle.law_node.specs.Calls.{TickBuckets, Visits, Grants, Granted, Assigned, Pass, Receive, Expire, Move, answered}
use Rattle.law_node.specs.Calls.{IsGiven as IsGivenTo, AreGiven, after as after_call, run_end}
use Rattle.test_loop.specs.Loops.{is_on}
use Rattle.law_run.specs.DrainRounds.{MayDrain}
use Rattle.law_run.specs.DrainTtis.{grown, IsLoopOff}
use Rattle.law_run.proofs.AnyCalls.Going.{Seen, told_seen, run_on, given_on}
use Rattle.law_run.proofs.AnyCalls.Visiting.{came, comes_seen, builds_down, sent_down, builds_up, sent_up}
use Rattle.law_run.proofs.AnyCalls.Visiting.{enough_by_grant}
use Rattle.law_run.proofs.AnyCalls.Settling.{downlink_goes}
use Rattle.law_run.proofs.DrainTtis.Expiring.{loops_off}

-- ---- an end

abbrev pub IsDraining : EndCall → Type 0
IsDraining (SetVisits maximum) = ⊥
IsDraining (SetReports reports) = ⊥
IsDraining (Add config keys) = ⊥
IsDraining (Submit lcid sdu) = ⊥
IsDraining (SetDiscard lcid ttis) = ⊥
IsDraining Tick = ⊥
IsDraining TickBuckets = Unit {0}
IsDraining (Visits t) = Unit {0}
IsDraining (Grants tti) = Unit {0}
IsDraining (Granted tti good) = Unit {0}
IsDraining (Assigned tti ndi good) = Unit {0}
IsDraining (Pass tti) = Unit {0}
IsDraining (Receive block) = Unit {0}
IsDraining (Expire lcid clock) = Unit {0}
IsDraining (Move keys) = ⊥

pub record EndDrains (e f : End) : Type 0 where
  pub calls : List EndCall
  pub given : AreGiven calls
  pub draining : AllByRecursion IsDraining calls
  pub end_is : f ≡ run_end calls e

by_none : (e f : End) → f ≡ e → EndDrains e f
by_none e f is = record { calls = []; given = tt; draining = tt; end_is = is }

by_one : (c : EndCall) (e f : End) → IsGivenTo c → IsDraining c → f ≡ after_call e c → EndDrains e f
by_one c e f g d is = record { calls = c ∷ []; given = (g, tt); draining = (d, tt); end_is = is }

all_more : (cs ds : List EndCall) → AllByRecursion IsDraining cs → AllByRecursion IsDraining ds
    → AllByRecursion IsDraining (cs ++ ds)
all_more [] ds p q = q
all_more (c ∷ cs) ds p q = (p.0, all_more cs ds p.1 q)

end_then : (e f g : End) → EndDrains e f → EndDrains f g → EndDrains e g
end_then e f g p q = record {
  calls = p.calls ++ q.calls;
  given = given_on p.calls q.calls p.given q.given;
  draining = all_more p.calls q.calls p.draining q.draining;
  end_is = q.end_is ∙ ap (run_end q.calls) p.end_is ∙ sym (run_on p.calls q.calls e);
}

-- ---- both

pub record BothDrain (k m : Link) : Type 0 where
  pub nb : EndDrains k.nb m.nb
  pub ue : EndDrains k.ue m.ue

pub both_then : (k m n : Link) → BothDrain k m → BothDrain m n → BothDrain k n
both_then k m n p q =
    record { nb = end_then k.nb m.nb n.nb p.nb q.nb; ue = end_then k.ue m.ue n.ue p.ue q.ue }

pub both_rest : (k m : Link) → m.nb ≡ k.nb → m.ue ≡ k.ue → BothDrain k m
both_rest k m nb ue = record { nb = by_none k.nb m.nb nb; ue = by_none k.ue m.ue ue }

-- a block is heard
hears_drain : (side : Side) (block : List ℕ) (k : Link) → BothDrain k (hears side block k)
hears_drain Nb block k =
    let told = told_seen Nb (received k.nb block).events (receives Nb block k) in
    record {
      nb = by_one (Receive block) k.nb (hears Nb block k).nb tt tt (ap (λ (s : Seen). s.nb) told);
      ue = by_none k.ue (hears Nb block k).ue (ap (λ (s : Seen). s.ue) told);
    }
hears_drain Ue block k =
    let told = told_seen Ue (received k.ue block).events (receives Ue block k) in
    record {
      nb = by_none k.nb (hears Ue block k).nb (ap (λ (s : Seen). s.nb) told);
      ue = by_one (Receive block) k.ue (hears Ue block k).ue tt tt (ap (λ (s : Seen). s.ue) told);
    }

-- ---- a visit, with the feedback on what is sent

abbrev turn_of : ℕ → ℕ → Order → Bool → Turn
turn_of t grant order good = record { tti = t; grant = grant; order = order; good = good }

abbrev fed : ℕ → Bool → End → End
fed t good e = record e { sender = after_feedback e.sender t good }

-- something is sent in it
abbrev IsLoud : Visit → ℕ → ℕ → Order → Type 0
IsLoud v t grant order = (good : Bool) (x : End) → answered v (turn_of t grant order good) x ≡ fed t good x

visited_by : (v : Visit) (t grant : ℕ) (order : Order) (good : Bool) (e f : End) → visit t order e ≡ v
    → IsLoud v t grant order → grant ≤ 9422 → IsEnough order grant → f ≡ fed t good (built t grant order e)
    → EndDrains e f
visited_by v t grant order good e f is loud within enough same =
    by_one (Visits (turn_of t grant order good)) e f (within, enough) tt
    (same
    ∙ sym (ap (λ (w : Visit). answered w (turn_of t grant order good) (built t grant order e)) is
    ∙ loud good (built t grant order e)))

quiet_by : (t grant : ℕ) (order : Order) (e f : End) → visit t order e ≡ Quiet → grant ≤ 9422 → IsEnough order grant
    → f ≡ built t grant order e → EndDrains e f
quiet_by t grant order e f is within enough same =
    by_one (Visits (turn_of t grant order true)) e f (within, enough) tt
    (same ∙ sym (ap (λ (w : Visit). answered w (turn_of t grant order true) (built t grant order e)) is))

-- ---- the downlink

came_by : (f : Fate) (t : ℕ) (ndi : Bool) (e d : End) → d ≡ came f t ndi e → EndDrains e d
came_by Miss t ndi e d is = by_none e d is
came_by Ok t ndi e d is = by_one (Assigned t ndi true) e d tt tt is
came_by Bad t ndi e d is = by_one (Assigned t ndi false) e d tt tt is

heard_by_answer : (a : Answer) (block : List ℕ) (k : Link) → BothDrain k (hears_by a block k)
heard_by_answer HandedUp block k = hears_drain Ue block k
heard_by_answer Again block k = both_rest k k refl refl
heard_by_answer Damaged block k = both_rest k k refl refl
heard_by_answer Nothing block k = both_rest k k refl refl

goes_down : (v : Visit) (t grant : ℕ) (order : Order) (o : Outcome) (ndi : Bool) (block : List ℕ) (k : Link)
    → visit t order k.nb ≡ v → IsLoud v t grant order → grant ≤ 9422 → IsEnough order grant
    → BothDrain k (lands t o ndi block (sends v Nb t block (unseen v t (builds Nb t grant order k))))
goes_down v t grant order o ndi block k is loud within enough =
    let n = sends v Nb t block (unseen v t (builds Nb t grant order k)) in
    let sent = sent_down v t grant order block k in
    let a = answer o.fate t ndi n in
    let good = turned o.flipped (is_good a) in
    let c = comes o.fate t ndi n in
    let q = says (records.Air (sent_by Nb) (told_as a) (Some good)) (feeds Nb t good c) in
    let come = comes_seen o.fate t ndi n in
    both_then k q (hears_by a block q)
    (record {
      nb = visited_by v t grant order good k.nb q.nb is loud within enough
          (ap (λ (s : Seen). fed t good s.nb) come ∙ ap (λ (s : Seen). fed t good s.nb) sent);
      ue = came_by o.fate t ndi k.ue q.ue
          (ap (λ (s : Seen). s.ue) come ∙ ap (λ (s : Seen). came o.fate t ndi s.ue) sent);
    }) (heard_by_answer a block q)

down_by_drains : (v : Visit) (t grant : ℕ) (order : Order) (o : Outcome) (ndi : Bool) (k : Link)
    → visit t order k.nb ≡ v → grant ≤ 9422 → IsEnough order grant
    → BothDrain k (down_by v t o ndi (builds Nb t grant order k))
down_by_drains New t grant order o ndi k is within enough =
    goes_down New t grant order o ndi (block_at t (builds Nb t grant order k).nb) k is (λ good x. refl) within enough
down_by_drains (Resend rv) t grant order o ndi k is within enough =
    goes_down (Resend rv) t grant order o ndi (block_at t (builds Nb t grant order k).nb) k is (λ good x. refl) within
    enough
down_by_drains Quiet t grant order o ndi k is within enough =
    let m = builds Nb t grant order k in
    let told = builds_down t grant order k in
    record {
      nb = quiet_by t grant order k.nb m.nb is within enough (ap (λ (s : Seen). s.nb) told);
      ue = by_none k.ue m.ue (ap (λ (s : Seen). s.ue) told);
    }

down_drains : (t grant : ℕ) (o : Outcome) (k : Link) → grant ≤ 9422 → BothDrain k (downlink t grant o k)
unfolding downlink
down_drains t grant o k within =
    let order = down_order grant in
    down_by_drains (visit t order k.nb) t grant order o (built_ndi Nb t grant order k) k refl within
    (enough_by_grant grant)

-- ---- the uplink

goes_up : (v : Visit) (t grant : ℕ) (order : Order) (block : List ℕ) (k : Link) → visit t order k.ue ≡ v
    → IsLoud v t grant order → grant ≤ 9422 → IsEnough order grant
    → BothDrain k (aired t false true block (sends v Ue t block (awake v t (builds Ue t grant order k))))
goes_up v t grant order block k is loud within enough =
    let n = sends v Ue t block (awake v t (builds Ue t grant order k)) in
    let sent = sent_up v t grant order block k in
    let q = says (records.Air Up arriveds.Got (Some true)) (feeds Ue t true (granted t (Some true) n)) in
    both_then k q (hears_if true block q)
    (record {
      nb = by_one (Granted t (Some true)) k.nb q.nb tt tt
          (ap (λ (s : Seen). after_call s.nb (Granted t (Some true))) sent);
      ue = visited_by v t grant order true k.ue q.ue is loud within enough
          (ap (λ (s : Seen). fed t true s.ue) sent);
    }) (hears_drain Nb block q)

up_by_drains : (v : Visit) (t grant : ℕ) (order : Order) (k : Link) → visit t order k.ue ≡ v → grant ≤ 9422
    → IsEnough order grant → BothDrain k (up_by v t intact (builds Ue t grant order k))
up_by_drains New t grant order k is within enough =
    goes_up New t grant order (block_at t (builds Ue t grant order k).ue) k is (λ good x. refl) within enough
up_by_drains (Resend rv) t grant order k is within enough =
    goes_up (Resend rv) t grant order (block_at t (builds Ue t grant order k).ue) k is (λ good x. refl) within enough
up_by_drains Quiet t grant order k is within enough =
    let m = builds Ue t grant order k in
    let told = builds_up t grant order k in
    let n = says (records.Air Up arriveds.Nothing None) (granted t None m) in
    record {
      nb = by_one (Granted t None) k.nb n.nb tt tt (ap (λ (s : Seen). after_call s.nb (Granted t None)) told);
      ue = quiet_by t grant order k.ue n.ue is within enough (ap (λ (s : Seen). s.ue) told);
    }

up_drains : (t grant : ℕ) (k : Link) → 1 ≤ grant → grant ≤ 9422 → BothDrain k (uplink t grant intact k)
unfolding uplink
up_drains t grant k some within =
    let order = Grant (grant_ndi k.nb.receiver t) in
    let m = with_end Nb (after_call k.nb (Grants t)) k in
    let no : (grant == 0) ≡ false = grind (arith, nat_tests) in
    subst (λ (b : Bool). BothDrain k (if b then passes t k else grants t grant intact k)) (sym no)
    (both_then k m (grants t grant intact k)
    (record { nb = by_one (Grants t) k.nb m.nb tt tt refl; ue = by_none k.ue m.ue refl })
    (up_by_drains (visit t order k.ue) t grant order m refl within some))

-- ---- the whole

-- no loop is on behind the downlink
down_off : (grant : ℕ) (k : Link) → MayDrain k → IsLoopOff (downlink k.ttis grant intact (grown k))
down_off grant k may =
    let w = downlink_goes k.looping.mode k.ttis grant intact (grown k) (record {
      mode_is = refl;
      none_kept = may.rests.none_kept;
      none_waits = λ off. may.rests.none_waits;
    }) in
    ap is_on w.stands.mode_is ∙ may.off

pub tti_drains : (grant : ℕ) (k : Link) → 1 ≤ grant → grant ≤ 9422 → MayDrain k → BothDrain k (drain_tti grant k)
unfolding drain_tti
tti_drains grant k some within may =
    let j = grown k in
    let d = downlink k.ttis grant intact j in
    let off = loops_off d (down_off grant k may) in
    both_then k j (drain_tti grant k)
    (record { nb = by_one TickBuckets k.nb j.nb tt tt refl; ue = by_one TickBuckets k.ue j.ue tt tt refl })
    (both_then j d (drain_tti grant k) (down_drains k.ttis grant intact j within)
    (both_then d (loops d) (drain_tti grant k)
    (both_rest d (loops d) (ap (λ (x : Link). x.nb) off) (ap (λ (x : Link). x.ue) off))
    (up_drains k.ttis grant (loops d) some within)))
