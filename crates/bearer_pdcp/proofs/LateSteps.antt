-- One SDU after the other is dropped as its discard timer has ended.
use Rattle.std.proofs.Common.{◌≡◌, ◌<◌, ℕ, Bool, true, false, if◌then◌else◌, List, [], ◌∷◌, ◌++◌, length, drop}
use Rattle.std.proofs.Common.{option_map, Some, None, slice_get, append_assoc, subst, refl, ap, sym, ◌∙◌, arith, ◌⊎◌}
use Rattle.std.proofs.Common.{inl, inr}
use Rattle.std.proofs.lemmas.List.{append-nil}
use Rattle.bearer_types.specs.declared.Event.{Event}
use Rattle.bearer_types.specs.declared.Event.TheVariants.{Discard}
use Rattle.pdcp_tx_store.specs.Waiting.{Waits}
use Rattle.pdcp_tx.specs.State.{State as Sending, is_late, is_overdue, after_late, late_length}
use Rattle.bearer_pdcp.specs.Discarding.{without_late, late_told}

length_by : (s : Sending) (b : Bool) → is_overdue s ≡ b
    → late_length s ≡ (if b then option_map (λ w. length w.sdu) (slice_get s.waiting 0) else None)
unfolding late_length
length_by s b e = rw e refl

late_by : (s : Sending) (b : Bool) → is_overdue s ≡ b
    → after_late s ≡ record s { waiting = if b then drop 1 s.waiting else s.waiting }
unfolding after_late
late_by s b e = rw e refl

-- where an SDU is dropped
record Dropped (lcid len : ℕ) (s : Sending) : Type 0 where
  first : Waits
  rest : List Waits
  overdue : is_overdue s ≡ true
  waiting : s.waiting ≡ first ∷ rest
  length : length first.sdu ≡ len
  left : (after_late s).waiting ≡ rest

dropped_by : (lcid len : ℕ) (s : Sending) (b : Bool) (ws : List Waits) → is_overdue s ≡ b → s.waiting ≡ ws
    → late_length s ≡ Some len → Dropped lcid len s
dropped_by lcid len s false ws e q h = let no : None ≡ Some len = sym (length_by s false e) ∙ h in cc
dropped_by lcid len s true [] e q h = let no : None ≡ Some len =
    subst (λ l. option_map (λ w. length w.sdu) (slice_get l 0) ≡ Some len) q (sym (length_by s true e) ∙ h) in cc
dropped_by lcid len s true (w ∷ ws) e q h =
    let some : Some (length w.sdu) ≡ Some len =
    subst (λ l. option_map (λ w. length w.sdu) (slice_get l 0) ≡ Some len) q (sym (length_by s true e) ∙ h) in
    record {
      first = w;
      rest = ws;
      overdue = e;
      waiting = q;
      length = cc;
      left = ap (λ t. t.waiting) (late_by s true e) ∙ ap (drop 1) q;
    }

dropped : (lcid len : ℕ) (s : Sending) → late_length s ≡ Some len → Dropped lcid len s
dropped lcid len s h = dropped_by lcid len s (is_overdue s) s.waiting refl refl h

told_of : (lcid : ℕ) (s : Sending) (w : Waits) (ws : List Waits) → s.waiting ≡ w ∷ ws → is_overdue s ≡ true
    → Discard lcid (length w.sdu) ∷ late_told lcid ws (after_late s) ≡ late_told lcid s.waiting s
told_of lcid s w ws q e =
    subst (λ l. Discard lcid (length w.sdu) ∷ late_told lcid ws (after_late s) ≡ late_told lcid l s) (sym q)
    (rw e refl)

left_of : (s : Sending) (w : Waits) (ws : List Waits) → s.waiting ≡ w ∷ ws → is_overdue s ≡ true
    → without_late ws (after_late s) ≡ without_late s.waiting s
left_of s w ws q e = subst (λ l. without_late ws (after_late s) ≡ without_late l s) (sym q) (rw e refl)

pub told_next : (lcid len : ℕ) (es : List Event) (s : Sending) → late_length s ≡ Some len
    → (es ++ Discard lcid len ∷ []) ++ late_told lcid (after_late s).waiting (after_late s)
    ≡ es ++ late_told lcid s.waiting s
told_next lcid len es s h =
    let d = dropped lcid len s h in
    append_assoc es (Discard lcid len ∷ []) (late_told lcid (after_late s).waiting (after_late s))
    ∙ ap (λ l. es ++ Discard lcid len ∷ late_told lcid l (after_late s)) d.left
    ∙ ap (λ (n : ℕ). es ++ Discard lcid n ∷ late_told lcid d.rest (after_late s)) (sym d.length)
    ∙ ap (λ l. es ++ l) (told_of lcid s d.first d.rest d.waiting d.overdue)

pub left_next : (len : ℕ) (s : Sending) → late_length s ≡ Some len
    → without_late (after_late s).waiting (after_late s) ≡ without_late s.waiting s
left_next len s h =
    let d = dropped 0 len s h in
    ap (λ l. without_late l (after_late s)) d.left ∙ left_of s d.first d.rest d.waiting d.overdue

fewer : (old new rest : List Waits) (w : Waits) → old ≡ w ∷ rest → new ≡ rest → length new < length old
fewer old new rest w q e = rw (q, e) (omega arith)

pub fewer_next : (len : ℕ) (s : Sending) → late_length s ≡ Some len → length (after_late s).waiting < length s.waiting
fewer_next len s h = let d = dropped 0 len s h in fewer s.waiting (after_late s).waiting d.rest d.first d.waiting d.left

-- where none is
not_overdue : (s : Sending) (b : Bool) (ws : List Waits) → is_overdue s ≡ b → s.waiting ≡ ws → late_length s ≡ None
    → (ws ≡ []) ⊎ (is_overdue s ≡ false)
not_overdue s false ws e q h = inr e
not_overdue s true [] e q h = inl refl
not_overdue s true (w ∷ ws) e q h = let no : Some (length w.sdu) ≡ None =
    subst (λ l. option_map (λ w. length w.sdu) (slice_get l 0) ≡ None) q (sym (length_by s true e) ∙ h) in cc

stays : (s : Sending) → (s.waiting ≡ []) ⊎ (is_overdue s ≡ false) → after_late s ≡ s
unfolding after_late
stays s (inl q) = rw q (kept (is_late s.discard s.clock None))
  where
    kept : (b : Bool) → record s { waiting = if b then drop 1 [] else [] } ≡ record s { waiting = [] }
    kept true = refl
    kept false = refl
stays s (inr e) = rw e refl

untold : (lcid : ℕ) (s : Sending) (ws : List Waits) → s.waiting ≡ ws → (ws ≡ []) ⊎ (is_overdue s ≡ false)
    → late_told lcid ws s ≡ []
untold lcid s [] q h = refl
untold lcid s (w ∷ ws) q (inl e) = let no : w ∷ ws ≡ [] = e in cc
untold lcid s (w ∷ ws) q (inr e) = rw e refl

unleft : (s : Sending) (ws : List Waits) → s.waiting ≡ ws → (ws ≡ []) ⊎ (is_overdue s ≡ false) → without_late ws s ≡ s
unleft s [] q h = refl
unleft s (w ∷ ws) q (inl e) = let no : w ∷ ws ≡ [] = e in cc
unleft s (w ∷ ws) q (inr e) = rw e refl

pub told_end : (lcid : ℕ) (es : List Event) (s : Sending) → late_length s ≡ None → es ++ late_told lcid s.waiting s ≡ es
told_end lcid es s h =
    ap (λ l. es ++ l) (untold lcid s s.waiting refl (not_overdue s (is_overdue s) s.waiting refl refl h))
    ∙ append-nil es

pub left_end : (s : Sending) → late_length s ≡ None → after_late s ≡ without_late s.waiting s
left_end s h =
    let o = not_overdue s (is_overdue s) s.waiting refl refl h in
    stays s o ∙ sym (unleft s s.waiting refl o)

pub ruleset lates = (told_next, left_next, fewer_next, told_end, left_end)
