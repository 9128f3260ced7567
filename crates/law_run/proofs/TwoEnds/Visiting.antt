-- The downlink and the uplink of a TTI as steps of both ends.
use Rattle.std.proofs.Common.{◌≡◌, ◌≤◌, ℕ, ◌%◌, ◌==◌, Bool, true, false, if◌then◌else◌, Option, Some, None, List, []}
use Rattle.std.proofs.Common.{map, append-nil, refl, ap, sym, subst, arith, ◌∙◌}
use Rattle.air_record.specs.declared.line.Fate.{Fate}
use Rattle.air_record.specs.declared.line.Fate.TheVariants.{Ok, Bad, Miss}
use Rattle.air_record.specs.declared.line.Outcome.{Outcome}
use Rattle.air_record.specs.declared.record.Arrived.TheVariants as arriveds
use Rattle.air_record.specs.declared.record.Record.TheVariants as records
use Rattle.harq.specs.declared.receiver.Answer.{Answer}
use Rattle.harq.specs.declared.receiver.Answer.TheVariants.{Up, Again, Damaged, Nothing}
use Rattle.harq.specs.declared.sender.Order.{Order}
use Rattle.harq.specs.declared.sender.Order.TheVariants as orders
use Rattle.harq.specs.declared.sender.Visit.{Visit}
use Rattle.harq.specs.declared.sender.Visit.TheVariants.{New, Resend, Silent as Quiet}
use Rattle.harq.specs.Receiving.{grant_ndi}
use Rattle.harq.specs.Sending.{visit_answer}
use Rattle.l2_node.specs.Building.{IsEnough, visit, built, building}
use Rattle.bearer_types.specs.Sides.{sent_by}
use Rattle.l2_types.specs.declared.side.Side.TheVariants.{Nb, Ue}
use Rattle.mac_pdu.specs.declared.item.Direction.TheVariants as directions
use Rattle.law_node.specs.Calls.{Grants, Granted, Assigned, Pass, after as after_call}
use Rattle.air_link.specs.Link.{Link, says, with_end}
use Rattle.air_link.specs.Downlink.{builds, built_ndi, block_at, sends, feeds, told_as, is_good, answer, comes}
use Rattle.air_link.specs.Downlink.{hears_by, lands, unseen, down_order, down_by, downlink}
use Rattle.air_record.specs.Outcomes.{turned}
use Rattle.air_link.specs.Uplink.{up_order, is_intact, told_as as up_told_as, granted, hears_if, aired as up_aired}
use Rattle.air_link.specs.Uplink.{awake, up_by, answers, grants, passes, uplink}
use Rattle.law_run.proofs.AnyCalls.Going.{other_told, Seen}
use Rattle.law_run.proofs.AnyCalls.Telling.{some_from}
use Rattle.law_run.proofs.AnyCalls.Visiting.{visit_records, comes_seen, builds_down, sent_down, enough_by_grant}
use Rattle.law_run.proofs.AnyCalls.Visiting.{builds_up, sent_up, sent}
use Rattle.law_deliver.specs.AmFlow.Air.{Station}
use Rattle.law_run.proofs.TwoEnds.Going.{Marks, Behind, Any, Block', ended, none}
use Rattle.law_run.proofs.TwoEnds.Resting.{call_rests}
use Rattle.law_run.proofs.TwoEnds.Showing.{IsSending, visit_shows, quiet_shows, visit_behind}
use Rattle.law_run.proofs.TwoEnds.Stages.{StageBehind, stages_then, says_behind, still_behind, called_nb_behind}
use Rattle.law_run.proofs.TwoEnds.Stages.{called_ue_behind, events_unlooped, Stands, Stage, stage_then, says_stage}
use Rattle.law_run.proofs.TwoEnds.Stages.{says_nothing, shows_nothing}
use Rattle.law_run.proofs.TwoEnds.Blocks.{Flown, hears_ue, hears_nb, Visiting, visit_nb, visit_ue, done_nb, done_ue}
use Rattle.law_run.proofs.TwoEnds.Stations.{Moment, Waits, Done}
use Rattle.law_run.proofs.TwoEnds.Together.{together_before, together_alone}
use Rattle.law_run.proofs.TwoEnds.Visits.{turn_of, fed, IsLoud, IsSent, flown_new, flown_again, building_own, visit_own}
use Rattle.law_run.proofs.TwoEnds.Visits.{visit_other, others_tell, visit_last, visit_says, visit_hears, visit_logs}
use Rattle.law_run.proofs.TwoEnds.Visits.{quiet_says, quiet_logs, visit_unlooped, fed_is, quiet_is}

module _ (l : ℕ) (set : Marks) where
  -- ---- the downlink

  -- what comes to the terminal's receiver
  came_stage : (f : Fate) (t : ℕ) (ndi good : Bool) (n : Link) (P : Station → Type 0) (u : Moment) → (b : Behind)
      → ended b ≡ []
      → StageBehind l set b b P (Stands Ue u) P (Stands Ue u) (feeds Nb t good n) (feeds Nb t good (comes f t ndi n))
  came_stage Miss t ndi good n P u b open' =
      still_behind l set b (feeds Nb t good n) (feeds Nb t good n) P (Stands Ue u) open' refl refl refl (λ b s. s)
  came_stage Ok t ndi good n P u b open' =
      let same = comes_seen Ok t ndi n in
      called_ue_behind l set b (Assigned t ndi true) [] none (feeds Nb t good n) (feeds Nb t good (comes Ok t ndi n))
      P u open' (λ sent fits. fits) (λ p at. at)
      (record { adds_none = refl; moves_none = refl; unset = λ off. refl })
      (record {
        plain = tt;
        given = tt;
        keeps = λ e. refl;
        end_is = ap (λ (s : Seen). s.ue) same;
        other_is = ap (λ (s : Seen). fed t good s.nb) same;
        out_is = ap (λ (s : Seen). s.out) same ∙ sym (append-nil n.out);
        says = says_nothing Ue n.ue (Assigned t ndi true) tt refl refl (λ i. refl);
        unhanded = λ off s i. refl;
        kinds_are = ap (λ (s : Seen). s.kinds) same;
        shown = shows_nothing l Ue n.ue (Assigned t ndi true) tt refl;
      })
  came_stage Bad t ndi good n P u b open' =
      let same = comes_seen Bad t ndi n in
      called_ue_behind l set b (Assigned t ndi false) [] none (feeds Nb t good n)
      (feeds Nb t good (comes Bad t ndi n)) P u open' (λ sent fits. fits) (λ p at. at)
      (record { adds_none = refl; moves_none = refl; unset = λ off. refl })
      (record {
        plain = tt;
        given = tt;
        keeps = λ e. refl;
        end_is = ap (λ (s : Seen). s.ue) same;
        other_is = ap (λ (s : Seen). fed t good s.nb) same;
        out_is = ap (λ (s : Seen). s.out) same ∙ sym (append-nil n.out);
        says = says_nothing Ue n.ue (Assigned t ndi false) tt refl refl (λ i. refl);
        unhanded = λ off s i. refl;
        kinds_are = ap (λ (s : Seen). s.kinds) same;
        shown = shows_nothing l Ue n.ue (Assigned t ndi false) tt refl;
      })

  -- what comes of it is told, and where it is got the terminal hears it
  lands_stage : (a : Answer) (octets : List ℕ) (v : ℕ) (heard : Option Bool) (k : Link) (P : Station
      → Type 0) (u : Moment) → ((s : Station) → P s → Flown octets v s)
      → StageBehind l set (Block' Nb octets v) Any P (Stands Ue u) P (Stands Ue u) k
      (hears_by a octets (says (records.Air directions.Down (told_as a) heard) k))
  lands_stage Up octets v heard k P u flown = hears_ue l set octets v heard k P u flown
  lands_stage Again octets v heard k P u flown =
      says_behind l set (Block' Nb octets v) (records.Air directions.Down arriveds.Dup heard) k P (Stands Ue u) refl
      (λ bits m from sent. refl) refl refl (λ n. refl) (λ c. refl)
  lands_stage Damaged octets v heard k P u flown =
      says_behind l set (Block' Nb octets v) (records.Air directions.Down arriveds.Bad heard) k P (Stands Ue u) refl
      (λ bits m from sent. refl) refl refl (λ n. refl) (λ c. refl)
  lands_stage Nothing octets v heard k P u flown =
      says_behind l set (Block' Nb octets v) (records.Air directions.Down arriveds.Nothing heard) k P (Stands Ue u) refl
      (λ bits m from sent. refl) refl refl (λ n. refl) (λ c. refl)

  goes_down : (v : Visit) (t grant : ℕ) (order : Order) (o : Outcome) (ndi : Bool) (octets : List ℕ) (k : Link)
      (u : Moment) → visit t order k.nb ≡ v → IsLoud v → IsSending v
      → ((good : Bool) → IsSent v Nb (turn_of t grant order good) k.nb)
      → octets ≡ block_at t (built t grant order k.nb) → grant ≤ 9422 → IsEnough order grant
      → Stage l set (Stands Nb (Waits t)) (Stands Ue u) (Stands Nb (Done t)) (Stands Ue u) k
      (lands t o ndi octets (sends v Nb t octets (unseen v t (builds Nb t grant order k))))
  goes_down v t grant order o ndi octets k u is loud sends_it flown octets_are within enough =
      let n = sends v Nb t octets (unseen v t (builds Nb t grant order k)) in
      let a = answer o.fate t ndi n in
      let good = turned o.flipped (is_good a) in
      let turn = turn_of t grant order good in
      let f = feeds Nb t good n in
      let q = feeds Nb t good (comes o.fate t ndi n) in
      let one = records.Air (sent_by Nb) (told_as a) (Some good) in
      let w = says one q in
      let z = hears_by a octets w in
      let same = sent_down v t grant order octets k in
      let more = visit_records v Nb t grant order k.kinds octets k.nb in
      let P = Visiting Nb turn k.nb in
      let Q = Stands Ue u in
      let W = Stands Nb (Waits t) in
      let D = Stands Nb (Done t) in
      let B = Block' Nb octets (t % 8) in
      let first : StageBehind l set Any B W Q P Q k f =
      visit_nb l set B turn more k f Q (λ sent. visit_last v Nb turn k.kinds octets k.nb sent sends_it)
      (λ p. visit_behind v Nb turn k.kinds octets k.nb p sends_it) (record {
        given = (within, enough);
        end_is = ap (λ (s : Seen). fed t good s.nb) same ∙ fed_is v turn k.nb is loud;
        other_is = ap (λ (s : Seen). s.ue) same;
        out_is = ap (λ (s : Seen). s.out) same;
        told_is = visit_own v Nb turn k.kinds octets k.nb;
        other_told = visit_other v Nb turn k.kinds octets k.nb;
        unlooped = λ n. visit_unlooped v Nb turn k.kinds octets k.nb n;
        says = λ bits j sent come. visit_says v bits j Nb turn k.kinds octets k.nb sent is come octets_are;
        hears = λ bits j sent. sym (visit_hears v bits j Nb turn k.kinds octets k.nb sent);
        logs = λ sent come. visit_logs v Nb turn k.kinds octets k.nb sent is come octets_are;
        together = together_before Nb (building t grant order k.nb) (sent v Nb t k.kinds octets);
        kinds_are = ap (λ (s : Seen). s.kinds) same;
        shown = visit_shows v l Nb turn k.kinds octets k.nb is octets_are;
      }) in
      let landed : StageBehind l set B Any P Q P Q q z =
      lands_stage a octets (t % 8) (Some good) q P u
      (λ s h. subst (λ (x : List ℕ). Flown x (t % 8) s) (sym octets_are) (flown good s h)) in
      let to_q = stages_then l set Any B B refl W Q P Q P Q k f q first (came_stage o.fate t ndi good n P u B refl) in
      let to_z = stages_then l set Any B Any refl W Q P Q P Q k q z to_q landed in
      stage_then l set W Q P Q D Q k z z to_z (done_nb l set turn k.nb z Q)

  quiet_down : (t grant : ℕ) (order : Order) (k : Link) (u : Moment) → visit t order k.nb ≡ Quiet → grant ≤ 9422
      → IsEnough order grant
      → Stage l set (Stands Nb (Waits t)) (Stands Ue u) (Stands Nb (Done t)) (Stands Ue u) k (builds Nb t grant order k)
  quiet_down t grant order k u is within enough =
      let turn = turn_of t grant order true in
      let m = builds Nb t grant order k in
      let same = builds_down t grant order k in
      let es = building t grant order k.nb in
      let Q = Stands Ue u in
      stage_then l set (Stands Nb (Waits t)) Q (Visiting Nb turn k.nb) Q (Stands Nb (Done t)) Q k m m
      (visit_nb l set Any turn (map (records.Of Nb) es) k m Q (λ sent. tt) (λ p. tt) (record {
        given = (within, enough);
        end_is = ap (λ (s : Seen). s.nb) same ∙ quiet_is turn k.nb is;
        other_is = ap (λ (s : Seen). s.ue) same;
        out_is = ap (λ (s : Seen). s.out) same;
        told_is = building_own Nb turn k.nb;
        other_told = other_told Nb es;
        unlooped = λ n. events_unlooped n Nb es;
        says = λ bits j sent come. quiet_says bits j Nb turn k.nb sent is;
        hears = λ bits j sent. sym (others_tell bits j Nb es sent);
        logs = λ sent come. quiet_logs Nb turn k.nb sent is;
        together = together_alone Nb es;
        kinds_are = ap (λ (s : Seen). s.kinds) same;
        shown = λ come. quiet_shows l Nb turn k.kinds k.nb is;
      }))
      (done_nb l set turn k.nb m Q)

  down_by_stage : (v : Visit) (t grant : ℕ) (order : Order) (o : Outcome) (ndi : Bool) (k : Link) (u : Moment)
      → visit t order k.nb ≡ v → grant ≤ 9422 → IsEnough order grant
      → Stage l set (Stands Nb (Waits t)) (Stands Ue u) (Stands Nb (Done t)) (Stands Ue u) k
      (down_by v t o ndi (builds Nb t grant order k))
  down_by_stage New t grant order o ndi k u is within enough =
      let m = builds Nb t grant order k in
      goes_down New t grant order o ndi (block_at t m.nb) k u is (λ x e. refl) tt
      (λ good. flown_new Nb (turn_of t grant order good) k.nb is)
      (ap (λ (s : Seen). block_at t s.nb) (builds_down t grant order k)) within enough
  down_by_stage (Resend rv) t grant order o ndi k u is within enough =
      let m = builds Nb t grant order k in
      goes_down (Resend rv) t grant order o ndi (block_at t m.nb) k u is (λ x e. refl) tt
      (λ good. flown_again rv Nb (turn_of t grant order good) k.nb is)
      (ap (λ (s : Seen). block_at t s.nb) (builds_down t grant order k)) within enough
  down_by_stage Quiet t grant order o ndi k u is within enough = quiet_down t grant order k u is within enough

  pub downlink_stage : (t grant : ℕ) (o : Outcome) (k : Link) (u : Moment) → grant ≤ 9422
      → Stage l set (Stands Nb (Waits t)) (Stands Ue u) (Stands Nb (Done t)) (Stands Ue u) k (downlink t grant o k)
  unfolding downlink
  downlink_stage t grant o k u within =
      let order = down_order grant in
      down_by_stage (visit t order k.nb) t grant order o (built_ndi Nb t grant order k) k u refl within
      (enough_by_grant grant)

  -- ---- the uplink

  rises_stage : (good : Bool) (octets : List ℕ) (v : ℕ) (heard : Option Bool) (k : Link) (n : Moment) (Q : Station
      → Type 0) → ((s : Station) → Q s → Flown octets v s)
      → StageBehind l set (Block' Ue octets v) Any (Stands Nb n) Q (Stands Nb n) Q k
      (hears_if good octets (says (records.Air directions.Up (up_told_as good) heard) k))
  rises_stage true octets v heard k n Q flown = hears_nb l set octets v heard k n Q flown
  rises_stage false octets v heard k n Q flown =
      says_behind l set (Block' Ue octets v) (records.Air directions.Up arriveds.Bad heard) k (Stands Nb n) Q refl
      (λ bits m from sent. refl) refl refl (λ n. refl) (λ c. refl)

  goes_up : (v : Visit) (t grant : ℕ) (order : Order) (o : Outcome) (octets : List ℕ) (k : Link) (m : Moment)
      → visit t order k.ue ≡ v → IsLoud v → IsSending v
      → ((good : Bool) → IsSent v Ue (turn_of t grant order good) k.ue)
      → octets ≡ block_at t (built t grant order k.ue) → grant ≤ 9422 → IsEnough order grant
      → Stage l set (Stands Nb m) (Stands Ue (Waits t)) (Stands Nb m) (Stands Ue (Done t)) k
      (up_aired t o.flipped (is_intact o.fate) octets (sends v Ue t octets (awake v t (builds Ue t grant order k))))
  goes_up v t grant order o octets k m is loud sends_it flown octets_are within enough =
      let n = sends v Ue t octets (awake v t (builds Ue t grant order k)) in
      let intact = is_intact o.fate in
      let good = turned o.flipped intact in
      let turn = turn_of t grant order good in
      let f = feeds Ue t good n in
      let q = feeds Ue t good (granted t (Some intact) n) in
      let one = records.Air directions.Up (up_told_as intact) (Some good) in
      let w = says one q in
      let z = hears_if intact octets w in
      let same = sent_up v t grant order octets k in
      let more = visit_records v Ue t grant order k.kinds octets k.ue in
      let P = Stands Nb m in
      let Q = Visiting Ue turn k.ue in
      let W = Stands Ue (Waits t) in
      let D = Stands Ue (Done t) in
      let B = Block' Ue octets (t % 8) in
      let first : StageBehind l set Any B P W P Q k f =
      visit_ue l set B turn more k f P (λ sent. visit_last v Ue turn k.kinds octets k.ue sent sends_it)
      (λ p. visit_behind v Ue turn k.kinds octets k.ue p sends_it) (record {
        given = (within, enough);
        end_is = ap (λ (s : Seen). fed t good s.ue) same ∙ fed_is v turn k.ue is loud;
        other_is = ap (λ (s : Seen). s.nb) same;
        out_is = ap (λ (s : Seen). s.out) same;
        told_is = visit_own v Ue turn k.kinds octets k.ue;
        other_told = visit_other v Ue turn k.kinds octets k.ue;
        unlooped = λ n. visit_unlooped v Ue turn k.kinds octets k.ue n;
        says = λ bits j sent come. visit_says v bits j Ue turn k.kinds octets k.ue sent is come octets_are;
        hears = λ bits j sent. sym (visit_hears v bits j Ue turn k.kinds octets k.ue sent);
        logs = λ sent come. visit_logs v Ue turn k.kinds octets k.ue sent is come octets_are;
        together = together_before Ue (building t grant order k.ue) (sent v Ue t k.kinds octets);
        kinds_are = ap (λ (s : Seen). s.kinds) same;
        shown = visit_shows v l Ue turn k.kinds octets k.ue is octets_are;
      }) in
      let brought : StageBehind l set B B P Q P Q f q =
      called_nb_behind l set B (Granted t (Some intact)) [] none f q m Q refl (λ sent fits. fits) (λ p at. at)
      (record { adds_none = refl; moves_none = refl; unset = λ off. refl })
      (record {
        plain = tt;
        given = tt;
        keeps = λ e. refl;
        end_is = refl;
        other_is = refl;
        out_is = sym (append-nil n.out);
        says = says_nothing Nb f.nb (Granted t (Some intact)) tt refl refl (λ i. refl);
        unhanded = λ off s i. refl;
        kinds_are = refl;
        shown = shows_nothing l Nb f.nb (Granted t (Some intact)) tt refl;
      }) in
      let risen : StageBehind l set B Any P Q P Q q z =
      rises_stage intact octets (t % 8) (Some good) q m Q
      (λ s h. subst (λ (x : List ℕ). Flown x (t % 8) s) (sym octets_are) (flown good s h)) in
      let to_q = stages_then l set Any B B refl P W P Q P Q k f q first brought in
      let to_z = stages_then l set Any B Any refl P W P Q P Q k q z to_q risen in
      stage_then l set P W P Q P D k z z to_z (done_ue l set turn k.ue z P)

  quiet_up : (t grant : ℕ) (order : Order) (k : Link) (m : Moment) → visit t order k.ue ≡ Quiet → grant ≤ 9422
      → IsEnough order grant
      → Stage l set (Stands Nb m) (Stands Ue (Waits t)) (Stands Nb m) (Stands Ue (Done t)) k (builds Ue t grant order k)
  quiet_up t grant order k m is within enough =
      let turn = turn_of t grant order true in
      let n = builds Ue t grant order k in
      let same = builds_up t grant order k in
      let es = building t grant order k.ue in
      let P = Stands Nb m in
      stage_then l set P (Stands Ue (Waits t)) P (Visiting Ue turn k.ue) P (Stands Ue (Done t)) k n n
      (visit_ue l set Any turn (map (records.Of Ue) es) k n P (λ sent. tt) (λ p. tt) (record {
        given = (within, enough);
        end_is = ap (λ (s : Seen). s.ue) same ∙ quiet_is turn k.ue is;
        other_is = ap (λ (s : Seen). s.nb) same;
        out_is = ap (λ (s : Seen). s.out) same;
        told_is = building_own Ue turn k.ue;
        other_told = other_told Ue es;
        unlooped = λ n. events_unlooped n Ue es;
        says = λ bits j sent come. quiet_says bits j Ue turn k.ue sent is;
        hears = λ bits j sent. sym (others_tell bits j Ue es sent);
        logs = λ sent come. quiet_logs Ue turn k.ue sent is;
        together = together_alone Ue es;
        kinds_are = ap (λ (s : Seen). s.kinds) same;
        shown = λ come. quiet_shows l Ue turn k.kinds k.ue is;
      }))
      (done_ue l set turn k.ue n P)

  up_by_stage : (v : Visit) (t grant : ℕ) (order : Order) (o : Outcome) (k : Link) (m : Moment)
      → visit t order k.ue ≡ v → grant ≤ 9422 → IsEnough order grant
      → Stage l set (Stands Nb m) (Stands Ue (Waits t)) (Stands Nb m) (Stands Ue (Done t)) k
      (up_by v t o (builds Ue t grant order k))
  up_by_stage New t grant order o k m is within enough =
      let n = builds Ue t grant order k in
      goes_up New t grant order o (block_at t n.ue) k m is (λ x e. refl) tt
      (λ good. flown_new Ue (turn_of t grant order good) k.ue is)
      (ap (λ (s : Seen). block_at t s.ue) (builds_up t grant order k)) within enough
  up_by_stage (Resend rv) t grant order o k m is within enough =
      let n = builds Ue t grant order k in
      goes_up (Resend rv) t grant order o (block_at t n.ue) k m is (λ x e. refl) tt
      (λ good. flown_again rv Ue (turn_of t grant order good) k.ue is)
      (ap (λ (s : Seen). block_at t s.ue) (builds_up t grant order k)) within enough
  up_by_stage Quiet t grant order o k m is within enough =
      let n = builds Ue t grant order k in
      let q = granted t None n in
      let P = Stands Nb m in
      let W = Stands Ue (Waits t) in
      let D = Stands Ue (Done t) in
      let one = records.Air directions.Up arriveds.Nothing None in
      let to_q = stage_then l set P W P D P D k n q (quiet_up t grant order k m is within enough)
      (call_rests l set Nb (Granted t None) n tt tt
      (record { adds_none = refl; moves_none = refl; unset = λ off. refl }) (λ e. refl) refl (λ n. refl) m
      (Done t)) in
      stage_then l set P W P D P D k q (says one q) to_q
      (says_stage l set one q P D (λ bits m from sent. refl) refl refl (λ n. refl) (λ c. refl))

  enough_up : (f : Fate) (ndi : Bool) (grant : ℕ) → 1 ≤ grant → IsEnough (up_order f ndi) grant
  enough_up Ok ndi grant some = some
  enough_up Bad ndi grant some = some
  enough_up Miss ndi grant some = tt

  grants_stage : (t grant : ℕ) (o : Outcome) (k : Link) (m : Moment) → 1 ≤ grant → grant ≤ 9422
      → Stage l set (Stands Nb m) (Stands Ue (Waits t)) (Stands Nb m) (Stands Ue (Done t)) k (grants t grant o k)
  grants_stage t grant o k m some within =
      let order = up_order o.fate (grant_ndi k.nb.receiver t) in
      let n = with_end Nb (after_call k.nb (Grants t)) k in
      let P = Stands Nb m in
      let W = Stands Ue (Waits t) in
      stage_then l set P W P W P (Stands Ue (Done t)) k n (answers t grant order o n)
      (call_rests l set Nb (Grants t) k tt tt
      (record { adds_none = refl; moves_none = refl; unset = λ off. refl }) (λ e. refl) refl (λ n. refl) m
      (Waits t))
      (up_by_stage (visit t order k.ue) t grant order o n m refl within
      (enough_up o.fate (grant_ndi k.nb.receiver t) grant some))

  passes_stage : (t : ℕ) (k : Link) (m : Moment)
      → Stage l set (Stands Nb m) (Stands Ue (Waits t)) (Stands Nb m) (Stands Ue (Done t)) k (passes t k)
  unfolding visit_answer
  passes_stage t k m =
      let n = builds Ue t 0 orders.Silent k in
      let P = Stands Nb m in
      let D = Stands Ue (Done t) in
      stage_then l set P (Stands Ue (Waits t)) P D P D k n (passes t k)
      (quiet_up t 0 orders.Silent k m refl (omega arith) tt)
      (call_rests l set Nb (Pass t) n tt tt (record { adds_none = refl; moves_none = refl; unset = λ off. refl })
      (λ e. refl) refl (λ n. refl) m (Done t))

  up_if : (b : Bool) (t grant : ℕ) (o : Outcome) (k : Link) (m : Moment) → (grant == 0) ≡ b → grant ≤ 9422
      → Stage l set (Stands Nb m) (Stands Ue (Waits t)) (Stands Nb m) (Stands Ue (Done t)) k
      (if b then passes t k else grants t grant o k)
  up_if true t grant o k m e within = passes_stage t k m
  up_if false t grant o k m e within = grants_stage t grant o k m (some_from grant e) within

  pub uplink_stage : (t grant : ℕ) (o : Outcome) (k : Link) (m : Moment) → grant ≤ 9422
      → Stage l set (Stands Nb m) (Stands Ue (Waits t)) (Stands Nb m) (Stands Ue (Done t)) k (uplink t grant o k)
  unfolding uplink
  uplink_stage t grant o k m within = up_if (grant == 0) t grant o k m refl within
