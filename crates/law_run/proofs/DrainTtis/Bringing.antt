-- Where the processes of a TTI are clear, what both ends' bearers are behind it.
use Rattle.std.proofs.Common.{◌≡◌, ◌≤◌, ◌+◌, ℕ, ◌%◌, ◌==◌, Bool, true, false, not, if◌then◌else◌, Some, None, List}
use Rattle.std.proofs.Common.{length, refl, ap, sym, subst, ◌∙◌, arith}
use Rattle.std.specs.Prelude.{slice_index_or, slice_set}
use Rattle.std.specs.List.{AllByRecursion}
use Rattle.std.proofs.lemmas.Bool.Decides.{nat_tests}
use Rattle.air_link.specs.Downlink.{downlink, down_by, builds, visits, built_ndi, block_at, sends}
use Rattle.air_link.specs.Downlink.{unseen, saw_new, assigned, answer, aired, feeds, hears, receives}
use Rattle.air_link.specs.Draining.{drain_tti}
use Rattle.air_link.specs.Link.{Link, says}
use Rattle.air_link.specs.Loops.{loops}
use Rattle.air_link.specs.Uplink.{uplink, up_by, passes, grants, granted}
use Rattle.air_record.specs.Outcomes.{intact}
use Rattle.air_record.specs.declared.line.Fate.TheVariants.{Ok}
use Rattle.air_record.specs.declared.record.Arrived.TheVariants.{Got}
use Rattle.air_record.specs.declared.record.Record.TheVariants as records
use Rattle.harq.specs.declared.receiver.Answer.{Answer}
use Rattle.harq.specs.declared.receiver.Answer.TheVariants.{Up as HandedUp, Again}
use Rattle.harq.specs.declared.sender.Order.{Order}
use Rattle.harq.specs.declared.sender.Order.TheVariants.{Free, Grant}
use Rattle.harq.specs.declared.sender.Visit.{Visit}
use Rattle.harq.specs.declared.sender.Visit.TheVariants.{New}
use Rattle.harq.specs.Receiving.{Receiving, was_decoded, process_at, after_grant, grant_ndi, assigned_answer}
use Rattle.harq.specs.Sending.{Sending, held_of, ndi_of, after_visit}
use Rattle.l2_node.specs.Building.{visit, visited, built, built_by, building, loaded}
use Rattle.l2_node.specs.End.{End}
use Rattle.l2_node.specs.Hearing.{received}
use Rattle.l2_node.specs.Writing.{needs, written, new_block}
use Rattle.l2_types.specs.declared.side.Side.TheVariants.{Nb, Ue}
use Rattle.mac_pdu.specs.declared.item.Direction.TheVariants.{Down, Up}
use Rattle.prioritise.specs.Shares.{after_allot}
use Rattle.law_run.specs.AnyCalls.Deeds.{Entities, entities}
use Rattle.law_run.specs.DrainTtis.{HaveEight, IsClear, Step, IsGranted, goes, ttis, Brings, BringsBoth, grown}
use Rattle.law_run.proofs.AnyCalls.Blocks.{block_is}
use Rattle.law_run.proofs.AnyCalls.Going.{Seen, told_seen, loops_rests, grown_rests}
use Rattle.law_run.proofs.AnyCalls.Sending.{still_eight, downlink_turn}
use Rattle.law_run.proofs.DrainTtis.Clearing.{ordered, next_clear, went}
use Rattle.law_run.proofs.DrainTtis.Processes.{new_free, new_granted, ndi_visited, ndi_loaded, none_decoded}

-- ---- an end builds a new block, and one hears it

-- what is built, where a new block is wanted
pub built_new : (t grant : ℕ) (order : Order) (e : End) → visit t order e ≡ New
    → built t grant order e ≡ loaded t grant (visited t order e)
unfolding built
built_new t grant order e new = ap (λ (v : Visit). built_by v t grant (visited t order e)) new

pub loaded_bearers : (t grant : ℕ) (e : End) → (loaded t grant e).bearers ≡ (written e grant).bearers
unfolding loaded
loaded_bearers t grant e = refl

loaded_buckets : (t grant : ℕ) (order : Order) (e : End) → (loaded t grant (visited t order e)).buckets
    ≡ after_allot e.buckets (needs (visited t order e) grant) (grant + 2)
unfolding loaded visited
loaded_buckets t grant order e = refl

-- what is heard depends on no process
heard_with : (e : End) (r : Receiving) (block : List ℕ)
    → (received (record e { receiver = r }) block).bearers ≡ (received e block).bearers
unfolding received
heard_with e r block = refl

first_nb : (b : Bool) (t : ℕ) (l : Link)
    → (if b then l else saw_new t (record l { seen = slice_set l.seen (t % 8) true })).nb ≡ l.nb
first_nb true t l = refl
first_nb false t l = refl

first_ue : (b : Bool) (t : ℕ) (l : Link)
    → (if b then l else saw_new t (record l { seen = slice_set l.seen (t % 8) true })).ue ≡ l.ue
first_ue true t l = refl
first_ue false t l = refl

-- ---- the downlink

module _ (t grant : ℕ) (l : Link) (some : 1 ≤ grant) (eight : length l.nb.sender.processes ≡ 8)
    (held : held_of l.nb.sender (t % 8) ≡ None)
    (known : was_decoded (ndi_of l.nb.sender t) (process_at l.ue.receiver t) ≡ true) where
  abbrev block : List ℕ
  block = new_block (visited t Free l.nb) grant

  abbrev b : Link
  b = builds Nb t grant Free l

  abbrev ndi : Bool
  ndi = built_ndi Nb t grant Free l

  abbrev n : Link
  n = sends New Nb t (block_at t b.nb) (unseen New t b)

  abbrev f : Link
  f = says (records.Air Down Got (Some true)) (feeds Nb t true (assigned t ndi true n))

  new : visit t Free l.nb ≡ New
  new = new_free l.nb.sender t held

  b_nb : b.nb ≡ built t grant Free l.nb
  b_nb = ap (λ (s : Seen). s.nb) (told_seen Nb (building t grant Free l.nb) (visits Nb t grant Free l))

  b_ue : b.ue ≡ l.ue
  b_ue = ap (λ (s : Seen). s.ue) (told_seen Nb (building t grant Free l.nb) (visits Nb t grant Free l))

  toggled : ndi ≡ not (ndi_of l.nb.sender t)
  unfolding loaded visited
  toggled =
      ap (λ (e : End). ndi_of e.sender t) (built_new t grant Free l.nb new)
      ∙ (ndi_loaded (after_visit l.nb.sender t Free) t (new_block (visited t Free l.nb) grant)
      (still_eight l.nb.sender t Free eight)
      ∙ ndi_visited l.nb.sender t eight held)

  unknown : was_decoded ndi (process_at l.ue.receiver t) ≡ false
  unknown =
      ap (λ (x : Bool). was_decoded x (process_at l.ue.receiver t)) toggled
      ∙ none_decoded l.ue.receiver t (ndi_of l.nb.sender t) known

  goes_up_once : answer Ok t ndi n ≡ HandedUp
  unfolding assigned_answer
  goes_up_once =
      ap (λ (e : End). if was_decoded ndi (process_at e.receiver t) then Again else HandedUp) b_ue
      ∙ ap (λ (x : Bool). if x then Again else HandedUp) unknown

  down_is : downlink t grant intact l ≡ hears Ue (block_at t b.nb) f
  unfolding downlink
  down_is =
      ap (λ (o : Order). down_by (visit t o l.nb) t intact (built_ndi Nb t grant o l) (builds Nb t grant o l))
      (ordered grant Free some)
      ∙ (ap (λ (v : Visit). down_by v t intact ndi b) new
      ∙ ap (λ (a : Answer). aired t false a (block_at t b.nb) (assigned t ndi true n)) goes_up_once)

  block_sent : block_at t b.nb ≡ block
  block_sent = ap (block_at t) b_nb ∙ block_is t grant Free l.nb eight new

  heard_at : (hears Ue (block_at t b.nb) f).nb ≡ f.nb
  heard_at =
      ap (λ (s : Seen). s.nb)
      (told_seen Ue (received f.ue (block_at t b.nb)).events (receives Ue (block_at t b.nb) f))

  heard_by : (hears Ue (block_at t b.nb) f).ue
      ≡ record f.ue { bearers = (received f.ue (block_at t b.nb)).bearers }
  heard_by =
      ap (λ (s : Seen). s.ue)
      (told_seen Ue (received f.ue (block_at t b.nb)).events (receives Ue (block_at t b.nb) f))

  abbrev seen_at : Bool
  seen_at = slice_index_or n.seen (t % 8) false

  f_nb : f.nb.bearers ≡ b.nb.bearers
  f_nb = ap (λ (e : End). e.bearers) (first_nb seen_at t _)

  f_buckets : f.nb.buckets ≡ b.nb.buckets
  f_buckets = ap (λ (e : End). e.buckets) (first_nb seen_at t _)

  pub brings_down : Brings t grant Free l.nb l.ue (downlink t grant intact l).nb (downlink t grant intact l).ue
  brings_down = record {
    built_is =
        ap (λ (m : Link). m.nb.bearers) down_is
        ∙ (ap (λ (e : End). e.bearers) heard_at
        ∙ (f_nb
        ∙ (ap (λ (e : End). e.bearers) (b_nb ∙ built_new t grant Free l.nb new)
        ∙ loaded_bearers t grant (visited t Free l.nb))));
    shared_is =
        ap (λ (m : Link). m.nb.buckets) down_is
        ∙ (ap (λ (e : End). e.buckets) heard_at
        ∙ (f_buckets
        ∙ (ap (λ (e : End). e.buckets) (b_nb ∙ built_new t grant Free l.nb new)
        ∙ loaded_buckets t grant Free l.nb)));
    heard_is =
        ap (λ (m : Link). m.ue.bearers) down_is
        ∙ (ap (λ (e : End). e.bearers) heard_by
        ∙ (ap (λ (e : End). (received e (block_at t b.nb)).bearers) (first_ue seen_at t _)
        ∙ (heard_with n.ue _ (block_at t b.nb)
        ∙ (ap (λ (e : End). (received e (block_at t b.nb)).bearers) b_ue
        ∙ ap (λ (o : List ℕ). (received l.ue o).bearers) block_sent))));
    rests_is =
        ap (λ (m : Link). m.ue.buckets) down_is
        ∙ (ap (λ (e : End). e.buckets) heard_by
        ∙ (ap (λ (e : End). e.buckets) (first_ue seen_at t _)
        ∙ ap (λ (e : End). e.buckets) b_ue));
  }

-- ---- the uplink

module _ (t grant : ℕ) (l : Link) (some : 1 ≤ grant) (eight : length l.ue.sender.processes ≡ 8)
    (held : held_of l.ue.sender (t % 8) ≡ None) where
  abbrev up_ndi : Bool
  up_ndi = grant_ndi l.nb.receiver t

  abbrev asked : Link
  asked = record l { nb = record l.nb { receiver = after_grant l.nb.receiver t } }

  abbrev u : Link
  u = builds Ue t grant (Grant up_ndi) asked

  abbrev sent : Link
  sent = sends New Ue t (block_at t u.ue) (saw_new t u)

  abbrev g : Link
  g = says (records.Air Up Got (Some true)) (feeds Ue t true (granted t (Some true) sent))

  up_new : visit t (Grant up_ndi) l.ue ≡ New
  up_new = new_granted l.ue.sender t up_ndi held

  u_ue : u.ue ≡ built t grant (Grant up_ndi) l.ue
  u_ue = ap (λ (s : Seen). s.ue)
      (told_seen Ue (building t grant (Grant up_ndi) l.ue) (visits Ue t grant (Grant up_ndi) asked))

  u_nb : u.nb ≡ asked.nb
  u_nb = ap (λ (s : Seen). s.nb)
      (told_seen Ue (building t grant (Grant up_ndi) l.ue) (visits Ue t grant (Grant up_ndi) asked))

  up_is : uplink t grant intact l ≡ hears Nb (block_at t u.ue) g
  unfolding uplink
  up_is =
      let no : (grant == 0) ≡ false = grind (arith, nat_tests) in
      ap (λ (x : Bool). if x then passes t l else grants t grant intact l) no
      ∙ ap (λ (v : Visit). up_by v t intact u) up_new

  up_sent : block_at t u.ue ≡ new_block (visited t (Grant up_ndi) l.ue) grant
  up_sent = ap (block_at t) u_ue ∙ block_is t grant (Grant up_ndi) l.ue eight up_new

  up_at : (hears Nb (block_at t u.ue) g).ue ≡ g.ue
  up_at = ap (λ (s : Seen). s.ue)
      (told_seen Nb (received g.nb (block_at t u.ue)).events (receives Nb (block_at t u.ue) g))

  up_by_nb : (hears Nb (block_at t u.ue) g).nb ≡ record g.nb { bearers = (received g.nb (block_at t u.ue)).bearers }
  up_by_nb = ap (λ (s : Seen). s.nb)
      (told_seen Nb (received g.nb (block_at t u.ue)).events (receives Nb (block_at t u.ue) g))

  pub brings_up : Brings t grant (Grant up_ndi) l.ue l.nb (uplink t grant intact l).ue (uplink t grant intact l).nb
  brings_up = record {
    built_is =
        ap (λ (m : Link). m.ue.bearers) up_is
        ∙ (ap (λ (e : End). e.bearers) up_at
        ∙ (ap (λ (e : End). e.bearers) (u_ue ∙ built_new t grant (Grant up_ndi) l.ue up_new)
        ∙ loaded_bearers t grant (visited t (Grant up_ndi) l.ue)));
    shared_is =
        ap (λ (m : Link). m.ue.buckets) up_is
        ∙ (ap (λ (e : End). e.buckets) up_at
        ∙ (ap (λ (e : End). e.buckets) (u_ue ∙ built_new t grant (Grant up_ndi) l.ue up_new)
        ∙ loaded_buckets t grant (Grant up_ndi) l.ue));
    heard_is =
        ap (λ (m : Link). m.nb.bearers) up_is
        ∙ (ap (λ (e : End). e.bearers) up_by_nb
        ∙ (heard_with sent.nb _ (block_at t u.ue)
        ∙ (ap (λ (e : End). (received e (block_at t u.ue)).bearers) u_nb
        ∙ (heard_with l.nb _ (block_at t u.ue)
        ∙ ap (λ (o : List ℕ). (received l.nb o).bearers) up_sent))));
    rests_is =
        ap (λ (m : Link). m.nb.buckets) up_is
        ∙ (ap (λ (e : End). e.buckets) up_by_nb ∙ ap (λ (e : End). e.buckets) u_nb);
  }

-- ---- the whole

pub clear_as : (t : ℕ) (e d : Entities) → e ≡ d → IsClear t d → IsClear t e
clear_as t e d q h = subst (IsClear t) (sym q) h

pub eight_as : (e d : Entities) → e ≡ d → HaveEight d → HaveEight e
eight_as e d q h = subst HaveEight (sym q) h

pub heard_at_once : (steps : List Step) (grant : ℕ) (l : Link) → HaveEight (entities l)
    → AllByRecursion IsGranted steps → 8 ≤ ttis steps → 1 ≤ grant
    → BringsBoth (goes steps l).ttis grant (grown (goes steps l)) (drain_tti grant (goes steps l))
unfolding drain_tti
heard_at_once steps grant l eight granted many some =
    let k = goes steps l in
    let t = k.ttis in
    let j = grown k in
    let same : entities j ≡ entities k = (grown_rests k).entities_are in
    let clear = clear_as t (entities j) (entities k) same (next_clear steps l eight granted many) in
    let whole = eight_as (entities j) (entities k) same (went steps l eight granted).eight in
    let d = downlink t grant intact j in
    let i = loops d in
    let sender : i.ue.sender ≡ j.ue.sender =
    ap (λ (e : Entities). e.ue.sender) (loops_rests d).entities_are ∙ (downlink_turn t grant intact j).ue_rests in
    record {
      down = d;
      ndi = grant_ndi i.nb.receiver t;
      goes_down = brings_down t grant j some whole.nb_sends clear.down clear.decoded;
      goes_up = brings_up t grant i some (ap (λ (s : Sending). length s.processes) sender ∙ whole.ue_sends)
          (ap (λ (s : Sending). held_of s (t % 8)) sender ∙ clear.up);
    }
