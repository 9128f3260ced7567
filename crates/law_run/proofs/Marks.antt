-- Which senders have failed, as a table by LCID, as the journal tells.
use Rattle.std.proofs.Common.{◌≡◌, ◌<◌, ℕ, suc, ◌==◌, Bool, true, false, ◌&&◌, ◌||◌, not, if◌then◌else◌, nat_lt}
use Rattle.std.proofs.Common.{length, List, []}
use Rattle.std.proofs.Common.{◌∷◌, ◌++◌, refl, ap, sym, arith, ◌∙◌}
use Rattle.std.specs.Prelude.{slice_index_or}
use Rattle.std.proofs.lemmas.Bool.Decides.{nat_tests}
use Rattle.std.proofs.lemmas.List.{get_or-replicate}
use Rattle.std.proofs.lemmas.List.Concat.{flat_map-append}
use Rattle.air_record.specs.declared.record.Record.{Record}
use Rattle.air_record.specs.declared.record.Record.TheVariants as records
use Rattle.air_text.specs.Groups.{Group}
use Rattle.bearer_types.specs.Sides.{is_same}
use Rattle.bearer_types.specs.declared.event.Event.{Event}
use Rattle.bearer_types.specs.declared.event.Event.TheVariants.{Fail}
use Rattle.l2_types.specs.declared.side.Side.{Side}
use Rattle.law_run.specs.AnyCalls.Counts.{is_fail, gives_up, AreMarked}
use Rattle.promises.specs.Drained.{failed, has_failed}
use Rattle.promises.specs.Events.{is_of_loop, fails_in, fails_on}
use Rattle.promises.specs.Parts.{is_handover}
use Rattle.promises.specs.Records.{event_of, events_of}
use Rattle.law_run.proofs.Lines.{failed_from}

-- a table of the LCIDs 0 to 10
pub record AreMarks (by : ℕ → Bool) (table : List Bool) : Type 0 where
  pub size : length table ≡ 11
  pub each : (lcid : ℕ) → lcid < 11 → slice_index_or table lcid false ≡ by lcid

-- from what had failed before, by whether a handover comes
abbrev pub failed_by : Bool → Bool → Bool → Bool
failed_by over before now = (if over then false else before) || now

pub marks_grow : (f g h : ℕ → Bool) (over : Bool) (xs ys : List Bool) → ((k : ℕ) → h k ≡ failed_by over (f k) (g k))
    → AreMarks f xs → AreMarked g (failed_from over xs) ys → AreMarks h ys
marks_grow f g h true xs ys e t p = record {
  size = p.same_length;
  each = λ k lt.
      p.marked k lt ∙ ap (λ (b : Bool). b || g k) (get_or-replicate 11 k false false lt) ∙ sym (e k);
}
marks_grow f g h false xs ys e t p = record {
  size = p.same_length ∙ t.size;
  each = λ k lt.
      let within : k < length xs = omega (arith, t.size) in
      p.marked k within ∙ ap (λ (b : Bool). b || g k) (t.each k lt) ∙ sym (e k);
}

-- ---- as records tell it

abbrev are_some : List ℕ → Bool
are_some xs = nat_lt 0 (length xs)

above : (n : ℕ) → nat_lt 0 (suc n) ≡ true
above n = grind (arith, nat_tests)

some_then : (xs ys : List ℕ) → are_some (xs ++ ys) ≡ are_some xs || are_some ys
some_then [] ys = refl
some_then (x ∷ xs) ys = above (length (xs ++ ys)) ∙ ap (λ (b : Bool). b || are_some ys) (sym (above (length xs)))

some_if : (b : Bool) (xs : List ℕ) → are_some (if b then [] else xs) ≡ (if b then false else are_some xs)
some_if true xs = refl
some_if false xs = refl

none_if : (b : Bool) (l : ℕ) (e : Event) → fails_in l e ≡ [] → fails_on l (if b then e ∷ [] else []) ≡ []
none_if true l e none = ap (λ (xs : List ℕ). xs ++ []) none
none_if false l e none = refl

fail_by : (here on : Bool) (l lcid sn : ℕ) → (lcid == l) ≡ on
    → are_some (fails_on l (if here && true then Fail lcid sn ∷ [] else [])) ≡ here && on
fail_by true true l lcid sn e = rw e (above 0)
fail_by true false l lcid sn e = rw e refl
fail_by false on l lcid sn e = refl

one_fails : (side : Side) (l : ℕ) (one : Record) → are_some (fails_on l (event_of side one)) ≡ is_fail side l one
one_fails side l (records.Of s (Fail lcid sn)) = fail_by (is_same side s) (lcid == l) l lcid sn refl
one_fails side l (records.Of s e) = ap are_some (none_if (is_same side s && not (is_of_loop e)) l e refl)
one_fails side l one = refl

fails_are : (side : Side) (l : ℕ) (told : List Record)
    → are_some (fails_on l (events_of side told)) ≡ gives_up side l told
fails_are side l [] = refl
fails_are side l (one ∷ told) =
    ap are_some (flat_map-append (fails_in l) (event_of side one) (events_of side told))
    ∙ some_then (fails_on l (event_of side one)) (fails_on l (events_of side told))
    ∙ ap (λ (b : Bool). b || are_some (fails_on l (events_of side told))) (one_fails side l one)
    ∙ ap (λ (b : Bool). is_fail side l one || b) (fails_are side l told)

pub failed_then : (side : Side) (l : ℕ) (past : List Group) (g : Group)
    → has_failed side l (g ∷ past) ≡ failed_by (is_handover g.line) (has_failed side l past) (gives_up side l g.events)
failed_then side l past g =
    let over = is_handover g.line in
    some_then (if over then [] else failed side l past) (fails_on l (events_of side g.events))
    ∙ ap (λ (b : Bool). b || are_some (fails_on l (events_of side g.events))) (some_if over (failed side l past))
    ∙ ap (λ (b : Bool). (if over then false else has_failed side l past) || b) (fails_are side l g.events)
