-- Counts through a run.
use Rattle.std.proofs.Common.{◌≡◌, ◌<◌, ℕ, ◌+◌, Bool, false, ◌||◌, Option, Some, None, List, [], ◌∷◌, ◌++◌, length}
use Rattle.std.proofs.Common.{map, replicate}
use Rattle.std.proofs.Common.{append-nil, refl, ap, sym, ◌∙◌, arith}
use Rattle.std.specs.Prelude.{slice_index, slice_index_or}
use Rattle.std.specs.List.{filter, range_with_len}
use Rattle.std.proofs.lemmas.List.{get_or-replicate}
use Rattle.std.proofs.lemmas.List.Elements.{filter-append}
use Rattle.std.proofs.lemmas.List.FromFn.{map-range_with_len_more}
use Rattle.air_record.specs.declared.line.Outcome.{Outcome}
use Rattle.air_record.specs.declared.record.NoPlace.{NoPlace}
use Rattle.air_record.specs.declared.record.Record.{Record}
use Rattle.air_record.specs.declared.record.Record.TheVariants as records
use Rattle.l2_types.specs.declared.side.Side.{Side}
use Rattle.l2_types.specs.declared.side.Side.TheVariants.{Nb, Ue}
use Rattle.air_record.specs.Outcomes.{intact}
use Rattle.air_link.specs.Link.{Link, fresh}
use Rattle.air_link.specs.Ttis.{sleeps}
use Rattle.law_run.specs.AnyCalls.Counts.{ups, loopeds, Grows, gives_up, AreMarked}
use Rattle.promises.specs.Records.{is_up, is_looped, is_of_run}
use Rattle.law_run.specs.AnyCalls.Calls.{Call}
use Rattle.law_run.specs.AnyCalls.Told.{why_refused, refusals, accepted, Adds, renewed, AddsTti, AddsSubmitted}
use Rattle.law_run.specs.AnyCalls.Runs.{Step, Tti, Drains, Submit, Calls, step, handed, Run, goes, goes_on, run_of}
use Rattle.law_run.specs.AnyCalls.Runs.{IsTable, IsCounted}
use Rattle.law_run.proofs.AnyCalls.Adding.{same_grows, count_then}
use Rattle.law_run.proofs.AnyCalls.Calling.{calls_adds, submitting_adds}
use Rattle.law_run.proofs.AnyCalls.Passing.{tti_adds, drain_adds}

-- ---- tables

pub grows_as : (f g : ℕ → ℕ) (xs ys : List ℕ) → ((k : ℕ) → g k ≡ f k) → Grows f xs ys → Grows g xs ys
grows_as f g xs ys e p = record {
  same_length = p.same_length;
  grown = λ k lt. let now = p.grown k lt in
      omega (arith, now, e k);
}

pub marked_as : (f g : ℕ → Bool) (xs ys : List Bool) → ((k : ℕ) → g k ≡ f k) → AreMarked f xs ys → AreMarked g xs ys
marked_as f g xs ys e p = record {
  same_length = p.same_length;
  marked = λ k lt. p.marked k lt ∙ ap (λ (b : Bool). slice_index_or xs k false || b) (sym (e k));
}

pub table_grows : (f g h : ℕ → ℕ) (xs ys : List ℕ) → ((k : ℕ) → h k ≡ f k + g k) → IsTable f xs → Grows g xs ys
    → IsTable h ys
table_grows f g h xs ys e t p = record {
  size = p.same_length ∙ t.size;
  each = λ k lt.
      let within : k < length xs = omega (arith, t.size) in
      let was = t.each k lt in
      let now = p.grown k within in
      omega (arith, was, now, e k);
}

-- ---- the records of a run itself

still_numbered : (journal more : List Record) (t u : ℕ) → filter is_of_run more ≡ [] → u ≡ t
    → filter is_of_run journal ≡ map records.Tti (range_with_len 0 t)
    → filter is_of_run (journal ++ more) ≡ map records.Tti (range_with_len 0 u)
still_numbered journal more t u none same e =
    filter-append is_of_run journal more ∙ ap (λ (x : List Record). filter is_of_run journal ++ x) none
    ∙ append-nil (filter is_of_run journal)
    ∙ e ∙ ap (λ (n : ℕ). map records.Tti (range_with_len 0 n)) (sym same)

next_numbered : (journal more : List Record) (t u : ℕ) → filter is_of_run more ≡ [] → u ≡ t + 1
    → filter is_of_run journal ≡ map records.Tti (range_with_len 0 t)
    → filter is_of_run (journal ++ records.Tti t ∷ more) ≡ map records.Tti (range_with_len 0 u)
next_numbered journal more t u none same e =
    filter-append is_of_run journal (records.Tti t ∷ more)
    ∙ ap (λ (x : List Record). filter is_of_run journal ++ records.Tti t ∷ x) none
    ∙ ap (λ (x : List Record). x ++ records.Tti t ∷ []) e
    ∙ sym (map-range_with_len_more records.Tti 0 t t (omega arith))
    ∙ ap (λ (n : ℕ). map records.Tti (range_with_len 0 n)) (sym same)

-- ---- a step

record StepAdds (s : Step) (l m : Link) : Type 0 where
  more : List Record
  out_is : m.out ≡ l.out ++ more
  nb_delivered : Grows (λ k. ups Nb k more) l.up.delivered m.up.delivered
  ue_delivered : Grows (λ k. ups Ue k more) l.down.delivered m.down.delivered
  nb_submitted : Grows (λ k. handed s Nb k l) l.down.submitted m.down.submitted
  ue_submitted : Grows (λ k. handed s Ue k l + loopeds k more) l.up.submitted m.up.submitted
  numbered : (journal : List Record) → filter is_of_run journal ≡ map records.Tti (range_with_len 0 l.ttis)
      → filter is_of_run (journal ++ more) ≡ map records.Tti (range_with_len 0 m.ttis)

call_adds : (c : Call) (l m : Link) → Adds [] (renewed c l) m → StepAdds (Calls c) l m
call_adds c l m a = record {
  more = a.more;
  out_is = a.out_is;
  nb_delivered = a.told.nb_delivered;
  ue_delivered = a.told.ue_delivered;
  nb_submitted = same_grows (λ k. 0) l.down.submitted m.down.submitted a.told.nb_submitted (λ k. refl);
  ue_submitted =
      grows_as (λ k. loopeds k a.more) (λ k. 0 + loopeds k a.more) l.up.submitted m.up.submitted (λ k. omega arith)
      a.told.ue_submitted;
  numbered = λ j e. still_numbered j a.more l.ttis m.ttis a.told.none_of_run a.ttis_is e;
}

tti_step : (up_grant : ℕ) (up : Outcome) (down_grant : ℕ) (down : Outcome) (l m : Link)
    → AddsTti (sleeps l.ttis l) up_grant up down_grant down l m → StepAdds (Tti up_grant up down_grant down) l m
tti_step up_grant up down_grant down l m a = record {
  more = records.Tti l.ttis ∷ a.more;
  out_is = a.out_is;
  nb_delivered = a.told.nb_delivered;
  ue_delivered = a.told.ue_delivered;
  nb_submitted = same_grows (λ k. 0) l.down.submitted m.down.submitted a.told.nb_submitted (λ k. refl);
  ue_submitted =
      grows_as (λ k. loopeds k a.more) (λ k. 0 + loopeds k a.more) l.up.submitted m.up.submitted (λ k. omega arith)
      a.told.ue_submitted;
  numbered = λ j e. next_numbered j a.more l.ttis m.ttis a.told.none_of_run a.ttis_is e;
}

drain_step : (grant : ℕ) (l m : Link) → AddsTti false grant intact grant intact l m → StepAdds (Drains grant) l m
drain_step grant l m a = record {
  more = records.Tti l.ttis ∷ a.more;
  out_is = a.out_is;
  nb_delivered = a.told.nb_delivered;
  ue_delivered = a.told.ue_delivered;
  nb_submitted = same_grows (λ k. 0) l.down.submitted m.down.submitted a.told.nb_submitted (λ k. refl);
  ue_submitted =
      grows_as (λ k. loopeds k a.more) (λ k. 0 + loopeds k a.more) l.up.submitted m.up.submitted (λ k. omega arith)
      a.told.ue_submitted;
  numbered = λ j e. next_numbered j a.more l.ttis m.ttis a.told.none_of_run a.ttis_is e;
}

pub no_ups : (why : Option NoPlace) (side s : Side) (lcid k : ℕ) → ups s k (refusals side lcid why) ≡ 0
no_ups None side s lcid k = refl
no_ups (Some why) side s lcid k = refl

pub no_loops : (why : Option NoPlace) (side : Side) (lcid k : ℕ) → loopeds k (refusals side lcid why) ≡ 0
no_loops None side lcid k = refl
no_loops (Some why) side lcid k = refl

pub no_failures : (why : Option NoPlace) (side s : Side) (lcid k : ℕ) → gives_up s k (refusals side lcid why) ≡ false
no_failures None side s lcid k = refl
no_failures (Some why) side s lcid k = refl

pub no_runs : (why : Option NoPlace) (side : Side) (lcid : ℕ) → filter is_of_run (refusals side lcid why) ≡ []
no_runs None side lcid = refl
no_runs (Some why) side lcid = refl

submit_step : (side : Side) (lcid : ℕ) (sdu : List ℕ) (l m : Link)
    → AddsSubmitted side lcid (why_refused side lcid sdu l) l m → StepAdds (Submit side lcid sdu) l m
submit_step Nb lcid sdu l m a =
    let why = why_refused Nb lcid sdu l in
    let more = refusals Nb lcid why in
    record {
      more = more;
      out_is = a.out_is;
      nb_delivered =
          same_grows (λ k. ups Nb k more) l.up.delivered m.up.delivered a.nb_delivered (λ k. no_ups why Nb Nb lcid k);
      ue_delivered =
          same_grows (λ k. ups Ue k more) l.down.delivered m.down.delivered a.ue_delivered
          (λ k. no_ups why Nb Ue lcid k);
      nb_submitted = a.submitted;
      ue_submitted =
          same_grows (λ k. 0 + loopeds k more) l.up.submitted m.up.submitted a.other_submitted
          (λ k. omega (arith, no_loops why Nb lcid k));
      numbered = λ j e. still_numbered j more l.ttis m.ttis (no_runs why Nb lcid) a.ttis_is e;
    }
submit_step Ue lcid sdu l m a =
    let why = why_refused Ue lcid sdu l in
    let more = refusals Ue lcid why in
    record {
      more = more;
      out_is = a.out_is;
      nb_delivered =
          same_grows (λ k. ups Nb k more) l.up.delivered m.up.delivered a.nb_delivered (λ k. no_ups why Ue Nb lcid k);
      ue_delivered =
          same_grows (λ k. ups Ue k more) l.down.delivered m.down.delivered a.ue_delivered
          (λ k. no_ups why Ue Ue lcid k);
      nb_submitted = same_grows (λ k. 0) l.down.submitted m.down.submitted a.other_submitted (λ k. refl);
      ue_submitted =
          grows_as (accepted lcid why) (λ k. accepted lcid why k + loopeds k more) l.up.submitted m.up.submitted
          (λ k. omega (arith, no_loops why Ue lcid k)) a.submitted;
      numbered = λ j e. still_numbered j more l.ttis m.ttis (no_runs why Ue lcid) a.ttis_is e;
    }

step_adds : (s : Step) (l : Link) → StepAdds s l (step s l)
step_adds (Tti up_grant up down_grant down) l =
    tti_step up_grant up down_grant down l (step (Tti up_grant up down_grant down) l)
    (tti_adds up_grant up down_grant down l)
step_adds (Drains grant) l = drain_step grant l (step (Drains grant) l) (drain_adds grant l)
step_adds (Submit side lcid sdu) l =
    submit_step side lcid sdu l (step (Submit side lcid sdu) l) (submitting_adds side lcid sdu l)
step_adds (Calls c) l = call_adds c l (step (Calls c) l) (calls_adds c l)

-- ---- all steps

goes_counted : (s : Step) (r : Run) → r.link.out ≡ [] → IsCounted r → StepAdds s r.link (step s r.link)
    → IsCounted (goes s r)
goes_counted s r nothing c a =
    let l = r.link in
    let m = step s l in
    let out : m.out ≡ a.more = a.out_is ∙ ap (λ (x : List Record). x ++ a.more) nothing in
    record {
      nb_delivered =
          table_grows (λ k. ups Nb k r.journal) (λ k. ups Nb k a.more) (λ k. ups Nb k (r.journal ++ m.out))
          l.up.delivered m.up.delivered
          (λ k. ap (λ (x : List Record). ups Nb k (r.journal ++ x)) out ∙ count_then (is_up Nb k) r.journal a.more)
          c.nb_delivered a.nb_delivered;
      ue_delivered =
          table_grows (λ k. ups Ue k r.journal) (λ k. ups Ue k a.more) (λ k. ups Ue k (r.journal ++ m.out))
          l.down.delivered m.down.delivered
          (λ k. ap (λ (x : List Record). ups Ue k (r.journal ++ x)) out ∙ count_then (is_up Ue k) r.journal a.more)
          c.ue_delivered a.ue_delivered;
      nb_submitted =
          table_grows (r.given Nb) (λ k. handed s Nb k l) (λ k. r.given Nb k + handed s Nb k l) l.down.submitted
          m.down.submitted (λ k. refl) c.nb_submitted a.nb_submitted;
      ue_submitted =
          table_grows (λ k. r.given Ue k + loopeds k r.journal) (λ k. handed s Ue k l + loopeds k a.more)
          (λ k. (r.given Ue k + handed s Ue k l) + loopeds k (r.journal ++ m.out))
          l.up.submitted m.up.submitted
          (λ k.
          let more : loopeds k (r.journal ++ m.out) ≡ loopeds k r.journal + loopeds k a.more =
          ap (λ (x : List Record). loopeds k (r.journal ++ x)) out ∙ count_then (is_looped k) r.journal a.more in
          omega (arith, more))
          c.ue_submitted a.ue_submitted;
      numbered = ap (λ (x : List Record). filter is_of_run (r.journal ++ x)) out ∙ a.numbered r.journal c.numbered;
    }

goes_on_counted : (ss : List Step) (r : Run) → r.link.out ≡ [] → IsCounted r → IsCounted (goes_on ss r)
goes_on_counted [] r nothing c = c
goes_on_counted (s ∷ ss) r nothing c =
    goes_on_counted ss (goes s r) refl (goes_counted s r nothing c (step_adds s r.link))

pub runs_counted : (ss : List Step) → IsCounted (run_of ss)
unfolding fresh
runs_counted ss =
    let none : (k : ℕ) → k < 11 → slice_index (replicate 11 0) k ≡ 0 = λ k lt. get_or-replicate 11 k 0 0 lt in
    goes_on_counted ss (record { link = fresh; journal = []; given = λ side k. 0 }) refl (record {
      nb_delivered = record { size = refl; each = none };
      ue_delivered = record { size = refl; each = none };
      nb_submitted = record { size = refl; each = none };
      ue_submitted = record { size = refl; each = λ k lt. let here = none k lt in omega (arith, here) };
      numbered = refl;
    })
