-- What a line adds to the counts of a link, and what it tells.
use Rattle.std.proofs.Common.{◌≡◌, ℕ, ◌+◌, ◌==◌, Bool, true, false, cond, List, [], ◌∷◌, ◌++◌, length, append-nil, refl}
use Rattle.std.proofs.Common.{ap, sym, arith, subst, ◌∙◌}
use Rattle.std.specs.Prelude.{Option, Some, None, if◌then◌else◌, replicate, not, ◌&&◌, ◌||◌}
use Rattle.std.specs.List.{filter, list_any}
use Rattle.std.proofs.lemmas.Bool.{eq-eqb}
use Rattle.std.proofs.lemmas.List.Elements.{filter-append}
use Rattle.air_link.specs.Lines.{submitting}
use Rattle.air_link.specs.Link.{Link}
use Rattle.air_link.specs.Ttis.{sleeps, tti}
use Rattle.air_record.specs.declared.line.Line.{Line}
use Rattle.air_record.specs.declared.line.Line.TheVariants as lines
use Rattle.air_record.specs.declared.line.Outcome.{Outcome}
use Rattle.air_record.specs.declared.record.NoPlace.{NoPlace}
use Rattle.air_record.specs.declared.record.Record.{Record}
use Rattle.air_record.specs.declared.record.Record.TheVariants as records
use Rattle.air_run.specs.Draining.{Drained, drained}
use Rattle.air_run.specs.Playing.{keys_or_none, acted, played}
use Rattle.air_record.specs.Cells.{next_keys}
use Rattle.eps_sec.specs.declared.Keys.{Keys}
use Rattle.l2_types.specs.declared.side.Side.{Side}
use Rattle.l2_types.specs.declared.side.Side.TheVariants.{Nb, Ue}
use Rattle.law_run.specs.AnyCalls.Calls as calls
use Rattle.law_run.specs.AnyCalls.Counts.{ups, loopeds, Grows, is_fail, gives_up, AreMarked}
use Rattle.promises.specs.Records.{is_up, is_looped, is_of_run, is_of_air}
use Rattle.law_run.specs.AnyCalls.Told.{why_refused, refusals, accepted, Adds, renewed, AddsTti}
use Rattle.law_run.specs.AnyCalls.Told.{AddsSubmitted}
use Rattle.law_run.proofs.AnyCalls.Adding.{stays, same_grows, count_then, same_marked, any_then}
use Rattle.law_run.proofs.AnyCalls.Calling.{calls_adds, submitting_adds}
use Rattle.law_run.proofs.AnyCalls.Passing.{tti_adds}
use Rattle.law_run.proofs.AnyCalls.Running.{grows_as, marked_as, no_ups, no_loops, no_runs, no_failures}
use Rattle.test_loop.specs.declared.Mode.TheVariants.{Off, A, B}
use Rattle.promises.specs.Air.{is_tti, numbered, IsOfItsTime, FliesIntact, InTurn}
use Rattle.promises.specs.Flows.{handed_in}
use Rattle.promises.specs.Parts.{Part, Submits, Passes, Drains, Rests, part_of_line, is_handover}
use Rattle.law_run.proofs.Records.{of_run_alone, count_numbered, ttis_of_drain}
use Rattle.law_run.proofs.Ttis.{WholeDrain, drained_adds}

-- a handover begins with no failure
abbrev pub failed_from : Bool → List Bool → List Bool
failed_from over failed = if over then replicate 11 false else failed

pub record PartAdds (p : Part) (over : Bool) (l m : Link) : Type 0 where
  pub nb_delivered : Grows (λ k. ups Nb k m.out) l.up.delivered m.up.delivered
  pub ue_delivered : Grows (λ k. ups Ue k m.out) l.down.delivered m.down.delivered
  pub nb_submitted : Grows (λ k. length (handed_in Nb k p m.out)) l.down.submitted m.down.submitted
  pub ue_submitted : Grows (λ k. length (handed_in Ue k p m.out) + loopeds k m.out) l.up.submitted m.up.submitted
  pub nb_failed : AreMarked (λ k. gives_up Nb k m.out) (failed_from over l.down.failed) m.down.failed
  pub ue_failed : AreMarked (λ k. gives_up Ue k m.out) (failed_from over l.up.failed) m.up.failed
  pub count : ℕ
  pub ttis_is : m.ttis ≡ l.ttis + count
  pub numbers : filter is_tti m.out ≡ numbered l.ttis count
  pub of_its_time : IsOfItsTime l.ttis p m.out

-- records that hold nothing of a run number no TTI
no_numbers : (told : List Record) → filter is_of_run told ≡ [] → filter is_tti told ≡ []
no_numbers told e = sym (of_run_alone told) ∙ ap (λ (x : List Record). filter is_tti x) e

-- ---- a line that is neither a TTI, a submission nor a drain

rests_add : (l m : Link) → l.out ≡ [] → Adds [] l m → PartAdds Rests false l m
rests_add l m nothing a =
    let out : m.out ≡ a.more = a.out_is ∙ ap (λ (x : List Record). x ++ a.more) nothing in
    let run : filter is_of_run m.out ≡ [] = ap (λ (x : List Record). filter is_of_run x) out ∙ a.told.none_of_run in
    record {
      nb_delivered =
          grows_as (λ k. ups Nb k a.more) (λ k. ups Nb k m.out) l.up.delivered m.up.delivered
          (λ k. ap (λ (x : List Record). ups Nb k x) out) a.told.nb_delivered;
      ue_delivered =
          grows_as (λ k. ups Ue k a.more) (λ k. ups Ue k m.out) l.down.delivered m.down.delivered
          (λ k. ap (λ (x : List Record). ups Ue k x) out) a.told.ue_delivered;
      nb_submitted = same_grows (λ k. 0) l.down.submitted m.down.submitted a.told.nb_submitted (λ k. refl);
      ue_submitted = grows_as (λ k. loopeds k a.more) (λ k. 0 + loopeds k m.out) l.up.submitted m.up.submitted
          (λ k. let same : loopeds k m.out ≡ loopeds k a.more = ap (λ (x : List Record). loopeds k x) out in
          omega (arith, same)) a.told.ue_submitted;
      nb_failed =
          marked_as (λ k. gives_up Nb k a.more) (λ k. gives_up Nb k m.out) l.down.failed m.down.failed
          (λ k. ap (λ (x : List Record). gives_up Nb k x) out) a.told.nb_failed;
      ue_failed =
          marked_as (λ k. gives_up Ue k a.more) (λ k. gives_up Ue k m.out) l.up.failed m.up.failed
          (λ k. ap (λ (x : List Record). gives_up Ue k x) out) a.told.ue_failed;
      count = 0;
      ttis_is = omega (arith, a.ttis_is);
      numbers = no_numbers m.out run;
      of_its_time = record { timed = run; flown = ap (λ (x : List Record). filter is_of_air x) out ∙ a.told.flown_is };
    }

-- a handover
moves_add : (keys : Keys) (l m : Link) → l.out ≡ [] → Adds [] (renewed (calls.HandsOver keys) l) m
    → PartAdds Rests true l m
moves_add keys l m nothing a =
    let p = rests_add (renewed (calls.HandsOver keys) l) m nothing a in
    record {
      nb_delivered = p.nb_delivered;
      ue_delivered = p.ue_delivered;
      nb_submitted = p.nb_submitted;
      ue_submitted = p.ue_submitted;
      nb_failed = p.nb_failed;
      ue_failed = p.ue_failed;
      count = p.count;
      ttis_is = p.ttis_is;
      numbers = p.numbers;
      of_its_time = p.of_its_time;
    }

-- ---- a submission

one_if : (b : Bool) (octets : List ℕ) → length (cond b (octets ∷ []) []) ≡ cond b 1 0
one_if true octets = refl
one_if false octets = refl

nb_handed : (lcid : ℕ) (octets : List ℕ) (why : Option NoPlace) (k : ℕ)
    → length (handed_in Nb k (Submits Nb lcid octets) (refusals Nb lcid why)) ≡ accepted lcid why k
nb_handed lcid octets (Some why) k =
    ap (λ (b : Bool). length (cond (not b && lcid == k) (octets ∷ []) [])) (eq-eqb lcid lcid refl)
nb_handed lcid octets None k = one_if (lcid == k) octets

ue_handed : (lcid : ℕ) (octets : List ℕ) (why : Option NoPlace) (k : ℕ)
    → length (handed_in Ue k (Submits Ue lcid octets) (refusals Ue lcid why)) ≡ accepted lcid why k
ue_handed lcid octets (Some why) k =
    ap (λ (b : Bool). length (cond (not b && lcid == k) (octets ∷ []) [])) (eq-eqb lcid lcid refl)
ue_handed lcid octets None k = one_if (lcid == k) octets

pub no_air : (why : Option NoPlace) (side : Side) (lcid : ℕ) → filter is_of_air (refusals side lcid why) ≡ []
no_air None side lcid = refl
no_air (Some why) side lcid = refl

submits_add : (side : Side) (lcid : ℕ) (octets : List ℕ) (l m : Link) → l.out ≡ []
    → AddsSubmitted side lcid (why_refused side lcid octets l) l m → PartAdds (Submits side lcid octets) false l m
submits_add Nb lcid octets l m nothing a =
    let why = why_refused Nb lcid octets l in
    let out : m.out ≡ refusals Nb lcid why = a.out_is ∙ ap (λ (x : List Record). x ++ refusals Nb lcid why) nothing in
    let run : filter is_of_run m.out ≡ [] = ap (λ (x : List Record). filter is_of_run x) out ∙ no_runs why Nb lcid in
    record {
      nb_delivered =
          same_grows (λ k. ups Nb k m.out) l.up.delivered m.up.delivered a.nb_delivered
          (λ k. ap (λ (x : List Record). ups Nb k x) out ∙ no_ups why Nb Nb lcid k);
      ue_delivered =
          same_grows (λ k. ups Ue k m.out) l.down.delivered m.down.delivered a.ue_delivered
          (λ k. ap (λ (x : List Record). ups Ue k x) out ∙ no_ups why Nb Ue lcid k);
      nb_submitted =
          grows_as (accepted lcid why) (λ k. length (handed_in Nb k (Submits Nb lcid octets) m.out)) l.down.submitted
          m.down.submitted
          (λ k. ap (λ (x : List Record). length (handed_in Nb k (Submits Nb lcid octets) x)) out
          ∙ nb_handed lcid octets why k) a.submitted;
      ue_submitted = same_grows (λ k. 0 + loopeds k m.out) l.up.submitted m.up.submitted a.other_submitted
          (λ k. let none : loopeds k m.out ≡ 0 = ap (λ (x : List Record). loopeds k x) out ∙ no_loops why Nb lcid k in
          omega (arith, none));
      nb_failed =
          same_marked (λ k. gives_up Nb k m.out) l.down.failed m.down.failed a.nb_failed
          (λ k. ap (λ (x : List Record). gives_up Nb k x) out ∙ no_failures why Nb Nb lcid k);
      ue_failed =
          same_marked (λ k. gives_up Ue k m.out) l.up.failed m.up.failed a.ue_failed
          (λ k. ap (λ (x : List Record). gives_up Ue k x) out ∙ no_failures why Nb Ue lcid k);
      count = 0;
      ttis_is = omega (arith, a.ttis_is);
      numbers = no_numbers m.out run;
      of_its_time =
          record { timed = run; flown = ap (λ (x : List Record). filter is_of_air x) out ∙ no_air why Nb lcid };
    }
submits_add Ue lcid octets l m nothing a =
    let why = why_refused Ue lcid octets l in
    let out : m.out ≡ refusals Ue lcid why = a.out_is ∙ ap (λ (x : List Record). x ++ refusals Ue lcid why) nothing in
    let run : filter is_of_run m.out ≡ [] = ap (λ (x : List Record). filter is_of_run x) out ∙ no_runs why Ue lcid in
    record {
      nb_delivered =
          same_grows (λ k. ups Nb k m.out) l.up.delivered m.up.delivered a.nb_delivered
          (λ k. ap (λ (x : List Record). ups Nb k x) out ∙ no_ups why Ue Nb lcid k);
      ue_delivered =
          same_grows (λ k. ups Ue k m.out) l.down.delivered m.down.delivered a.ue_delivered
          (λ k. ap (λ (x : List Record). ups Ue k x) out ∙ no_ups why Ue Ue lcid k);
      nb_submitted = same_grows (λ k. 0) l.down.submitted m.down.submitted a.other_submitted (λ k. refl);
      ue_submitted =
          grows_as (accepted lcid why) (λ k. length (handed_in Ue k (Submits Ue lcid octets) m.out) + loopeds k m.out)
          l.up.submitted m.up.submitted
          (λ k.
          let one : length (handed_in Ue k (Submits Ue lcid octets) m.out) ≡ accepted lcid why k =
          ap (λ (x : List Record). length (handed_in Ue k (Submits Ue lcid octets) x)) out
          ∙ ue_handed lcid octets why k in
          let none : loopeds k m.out ≡ 0 = ap (λ (x : List Record). loopeds k x) out ∙ no_loops why Ue lcid k in
          omega (arith, one, none)) a.submitted;
      nb_failed =
          same_marked (λ k. gives_up Nb k m.out) l.down.failed m.down.failed a.nb_failed
          (λ k. ap (λ (x : List Record). gives_up Nb k x) out ∙ no_failures why Ue Nb lcid k);
      ue_failed =
          same_marked (λ k. gives_up Ue k m.out) l.up.failed m.up.failed a.ue_failed
          (λ k. ap (λ (x : List Record). gives_up Ue k x) out ∙ no_failures why Ue Ue lcid k);
      count = 0;
      ttis_is = omega (arith, a.ttis_is);
      numbers = no_numbers m.out run;
      of_its_time =
          record { timed = run; flown = ap (λ (x : List Record). filter is_of_air x) out ∙ no_air why Ue lcid };
    }

-- ---- a TTI

passes_add : (asleep : Bool) (up_grant : ℕ) (up : Outcome) (down_grant : ℕ) (down : Outcome) (l m : Link) → l.out ≡ []
    → AddsTti asleep up_grant up down_grant down l m → PartAdds (Passes up_grant up down_grant down) false l m
passes_add asleep up_grant up down_grant down l m nothing a =
    let out : m.out ≡ records.Tti l.ttis ∷ a.more =
    a.out_is ∙ ap (λ (x : List Record). x ++ records.Tti l.ttis ∷ a.more) nothing in
    record {
      nb_delivered =
          grows_as (λ k. ups Nb k a.more) (λ k. ups Nb k m.out) l.up.delivered m.up.delivered
          (λ k. ap (λ (x : List Record). ups Nb k x) out) a.told.nb_delivered;
      ue_delivered =
          grows_as (λ k. ups Ue k a.more) (λ k. ups Ue k m.out) l.down.delivered m.down.delivered
          (λ k. ap (λ (x : List Record). ups Ue k x) out) a.told.ue_delivered;
      nb_submitted = same_grows (λ k. 0) l.down.submitted m.down.submitted a.told.nb_submitted (λ k. refl);
      ue_submitted = grows_as (λ k. loopeds k a.more) (λ k. 0 + loopeds k m.out) l.up.submitted m.up.submitted
          (λ k. let same : loopeds k m.out ≡ loopeds k a.more = ap (λ (x : List Record). loopeds k x) out in
          omega (arith, same)) a.told.ue_submitted;
      nb_failed =
          marked_as (λ k. gives_up Nb k a.more) (λ k. gives_up Nb k m.out) l.down.failed m.down.failed
          (λ k. ap (λ (x : List Record). gives_up Nb k x) out) a.told.nb_failed;
      ue_failed =
          marked_as (λ k. gives_up Ue k a.more) (λ k. gives_up Ue k m.out) l.up.failed m.up.failed
          (λ k. ap (λ (x : List Record). gives_up Ue k x) out) a.told.ue_failed;
      count = 1;
      ttis_is = a.ttis_is;
      numbers = ap (λ (x : List Record). filter is_tti x) out
          ∙ ap (λ (x : List Record). records.Tti l.ttis ∷ x) (no_numbers a.more a.told.none_of_run);
      of_its_time = record {
        timed = ap (λ (x : List Record). filter is_of_run x) out
            ∙ ap (λ (x : List Record). records.Tti l.ttis ∷ x) a.told.none_of_run;
        flown = record {
          asleep = asleep;
          flies = record {
            downward = a.downward;
            upward = a.upward;
            told_is = ap (λ (x : List Record). filter is_of_air x) out ∙ a.told.flown_is;
            down_is = a.down_is;
            up_is = a.up_is;
          };
        };
      };
    }

-- ---- a drain

ends_alone : (rounds : ℕ) → filter is_of_run (records.Drained rounds ∷ []) ≡ records.Drained rounds ∷ []
ends_alone rounds = refl

no_air_ends : (rounds : ℕ) → filter is_of_air (records.Drained rounds ∷ []) ≡ []
no_air_ends rounds = refl

no_ups_end : (rounds : ℕ) (side : Side) (k : ℕ) → ups side k (records.Drained rounds ∷ []) ≡ 0
no_ups_end rounds side k = refl

no_failures_end : (rounds : ℕ) (side : Side) (k : ℕ)
    → gives_up side k (records.Drained rounds ∷ []) ≡ false
no_failures_end rounds side k = refl

or_none : (b : Bool) → b || false ≡ b
or_none true = refl
or_none false = refl

no_loops_end : (rounds k : ℕ) → loopeds k (records.Drained rounds ∷ []) ≡ 0
no_loops_end rounds k = refl

pub drains_add : (grant : ℕ) (l : Link) (d : Drained) → WholeDrain grant l d
    → PartAdds (Drains grant) false l (record d.link { out = d.journal })
drains_add grant l d w =
    let last = records.Drained w.rounds ∷ [] in
    let n = 8 + w.rounds in
    let counts : (test : Record → Bool) → length (filter test last) ≡ 0
    → length (filter test d.journal) ≡ length (filter test w.said) =
    λ test none. let all = ap (λ (x : List Record). length (filter test x)) w.journal_is
    ∙ count_then test w.said last in omega (arith, all, none) in
    let tells : (test : Record → Bool) → list_any test last ≡ false
    → list_any test d.journal ≡ list_any test w.said =
    λ test none. ap (λ (x : List Record). list_any test x) w.journal_is ∙ any_then test w.said last
    ∙ ap (λ (b : Bool). list_any test w.said || b) none ∙ or_none (list_any test w.said) in
    let run : filter is_of_run d.journal ≡ numbered l.ttis n ++ last =
    ap (λ (x : List Record). filter is_of_run x) w.journal_is ∙ filter-append is_of_run w.said last
    ∙ ap (λ (x : List Record). x ++ filter is_of_run last) w.adds.numbers
    ∙ ap (λ (x : List Record). numbered l.ttis n ++ x) (ends_alone w.rounds) in
    let air : filter is_of_air d.journal ≡ filter is_of_air w.said =
    ap (λ (x : List Record). filter is_of_air x) w.journal_is ∙ filter-append is_of_air w.said last
    ∙ ap (λ (x : List Record). filter is_of_air w.said ++ x) (no_air_ends w.rounds)
    ∙ append-nil (filter is_of_air w.said) in
    let numbers : filter is_tti d.journal ≡ numbered l.ttis n =
    sym (of_run_alone d.journal) ∙ ap (λ (x : List Record). filter is_tti x) run
    ∙ ttis_of_drain l.ttis n w.rounds in
    let count : length (filter is_tti d.journal) ≡ n = ap (λ (x : List Record). length x) numbers
    ∙ count_numbered l.ttis n in
    record {
      nb_delivered =
          grows_as (λ k. ups Nb k w.said) (λ k. ups Nb k d.journal) l.up.delivered d.link.up.delivered
          (λ k. counts (is_up Nb k) (no_ups_end w.rounds Nb k)) w.adds.nb_delivered;
      ue_delivered =
          grows_as (λ k. ups Ue k w.said) (λ k. ups Ue k d.journal) l.down.delivered d.link.down.delivered
          (λ k. counts (is_up Ue k) (no_ups_end w.rounds Ue k)) w.adds.ue_delivered;
      nb_submitted = same_grows (λ k. 0) l.down.submitted d.link.down.submitted w.adds.nb_submitted (λ k. refl);
      ue_submitted = grows_as (λ k. loopeds k w.said) (λ k. 0 + loopeds k d.journal) l.up.submitted d.link.up.submitted
          (λ k. let same : loopeds k d.journal ≡ loopeds k w.said =
          counts (is_looped k) (no_loops_end w.rounds k) in omega (arith, same)) w.adds.ue_submitted;
      nb_failed =
          marked_as (λ k. gives_up Nb k w.said) (λ k. gives_up Nb k d.journal) l.down.failed d.link.down.failed
          (λ k. tells (is_fail Nb k) (no_failures_end w.rounds Nb k)) w.adds.nb_failed;
      ue_failed =
          marked_as (λ k. gives_up Ue k w.said) (λ k. gives_up Ue k d.journal) l.up.failed d.link.up.failed
          (λ k. tells (is_fail Ue k) (no_failures_end w.rounds Ue k)) w.adds.ue_failed;
      count = n;
      ttis_is = w.adds.ttis_is;
      numbers = numbers;
      of_its_time = record {
        timed = record { rounds = w.rounds; told_is = run };
        flown = subst (λ (m : ℕ). InTurn (λ k. FliesIntact k grant) l.ttis m (filter is_of_air d.journal)) (sym count)
            (subst (λ (x : List Record). InTurn (λ k. FliesIntact k grant) l.ttis n x) (sym air) w.adds.flown);
      };
    }

-- ---- every line

pub line_adds : (line : Line) (keys : Option Keys) (l : Link) → l.out ≡ []
    → PartAdds (part_of_line line) (is_handover line) l (played line keys l)
unfolding acted
line_adds (lines.Harq maximum) keys l nothing = rests_add l _ nothing (calls_adds (calls.Visits maximum) l)
line_adds lines.Bsr keys l nothing = rests_add l _ nothing (calls_adds calls.Reports l)
line_adds (lines.Keys ks) keys l nothing = rests_add l _ nothing (stays l l refl)
line_adds (lines.Bearer config options) keys l nothing =
    rests_add l _ nothing (calls_adds (calls.Bears config (keys_or_none keys)) l)
line_adds (lines.Submit side lcid octets) keys l nothing =
    submits_add side lcid octets l (submitting side lcid octets l) nothing (submitting_adds side lcid octets l)
line_adds (lines.Tti up_grant up down_grant down) keys l nothing =
    passes_add (sleeps l.ttis l) up_grant up down_grant down l (tti up_grant up down_grant down l) nothing
    (tti_adds up_grant up down_grant down l)
line_adds (lines.Expire side lcid clock) keys l nothing =
    rests_add l _ nothing (calls_adds (calls.Expires side lcid clock) l)
line_adds (lines.Handover user rrc integrity) keys l nothing =
    let next = next_keys user rrc integrity (keys_or_none keys) in
    moves_add next l _ nothing (calls_adds (calls.HandsOver next) l)
line_adds lines.LoopOff keys l nothing = rests_add l _ nothing (calls_adds (calls.Loops Off) l)
line_adds (lines.LoopA size) keys l nothing = rests_add l _ nothing (calls_adds (calls.Loops (A size)) l)
line_adds (lines.LoopB delay) keys l nothing = rests_add l _ nothing (calls_adds (calls.Loops (B delay)) l)
line_adds (lines.Drain grant) keys l nothing = drains_add grant l (drained grant l) (drained_adds grant l nothing)
line_adds (lines.Forge side octets) keys l nothing = rests_add l _ nothing (calls_adds (calls.Forges side octets) l)
line_adds (lines.Discard lcid count) keys l nothing = rests_add l _ nothing (calls_adds (calls.Discards lcid count) l)
line_adds (lines.Drx config) keys l nothing = rests_add l _ nothing (calls_adds (calls.Listens config) l)
line_adds lines.End keys l nothing = rests_add l _ nothing (stays l l refl)
