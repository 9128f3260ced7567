-- What comes up at the end.
use Rattle.std.proofs.Common.{◌≡◌, ◌<◌, ◌≤◌, inl, inr, ℕ, suc, zero, ◌+◌, ◌-◌, Bool, true, false, List, [], ◌∷◌, ◌++◌}
use Rattle.std.proofs.Common.{length, map, take, drop, replicate, Option, Some, None, is_some, slice_get, refl, ap, sym}
use Rattle.std.proofs.Common.{subst, ◌∙◌, arith, append_assoc, if◌then◌else◌}
use Rattle.std.proofs.lemmas.Bool.{cases_lt, lt-ltb, le-ltb, ne_eqb, eq-eqb}
use Rattle.std.proofs.lemmas.List.{append-nil}
use Rattle.l2_types.specs.declared.AmRxConfig.{AmRxConfig}
use Rattle.rlc_am_rx_window.specs.Cells.{Cell, leading}
use Rattle.rlc_am_rx_window.specs.Held.{Held, has_end, ends_at}
use Rattle.rlc_am_rx_window.specs.Joined.{Joined, empty, joined, broken}
use Rattle.rlc_am_rx_window.specs.Window.{slot_at, broken_unless, salvaged}
use Rattle.rlc_am_rx.specs.State.{State}
use Rattle.law_rlc.specs.AmReceiver.Run.{Call, World, state_after, happens, run_am_receiver, begin}
use Rattle.law_rlc.specs.AmReceiver.Stream.{AreHonest, Flow, flows, flow, initial, stream, somes}
use Rattle.law_rlc.specs.AmReceiver.Finish.{IsStream, Place, marked, places, arrived_in, IsFinished}
use Rattle.law_rlc.proofs.AmReceiver.Places.{there}
use Rattle.law_rlc.proofs.AmReceiver.Least.{Keeps, run-keeps, fresh-keeps}
use Rattle.law_rlc.proofs.AmReceiver.InSequence.{behind, joined_behind, joined_append, somes_append, Fits, SlotFits}
use Rattle.law_rlc.proofs.AmReceiver.InSequence.{Flows, flow-flows, initial-flows, put_to, lead-take}
use Rattle.law_rlc.proofs.AmReceiver.Joins.{held, IsChain, ready_is_whole}

broken_behind : (gone : List (List ℕ)) (b : Bool) (j : Joined)
    → broken_unless b (behind gone j) ≡ behind gone (broken_unless b j)
broken_behind gone true j = refl
broken_behind gone false j = refl

salvaged_behind : (gone : List (List ℕ)) (j : Joined) (slots : List Held) (given : ℕ)
    → salvaged (behind gone j) slots given ≡ behind gone (salvaged j slots given)
salvaged_behind gone j [] given = refl
salvaged_behind gone j (h ∷ hs) given =
    ap (λ (k : Joined). salvaged (broken_unless (has_end h) k) hs 0) (joined_behind gone j (drop given h.cells))
    ∙ ap (λ (k : Joined). salvaged k hs 0) (broken_behind gone (has_end h) (joined j (drop given h.cells)))
    ∙ salvaged_behind gone (broken_unless (has_end h) (joined j (drop given h.cells))) hs 0

-- ---- a number's places as they are held

-- a field's places, those of which nothing has arrived included
pub padded : (cells : List (Option Cell)) (field : List Cell) (come : ℕ → Bool) (i : ℕ) → Fits cells field
    → length cells ≤ length field → ((j : ℕ) → come (i + j) ≡ there cells j)
    → map held (marked field come i) ≡ cells ++ replicate (length field - length cells) None
padded [] [] come i f le link = refl
padded [] (x ∷ xs) come i f le link =
    let here : come i ≡ false = subst (λ (k : ℕ). come k ≡ false) (omega arith) (link 0) in
    let count : length (x ∷ xs) - 0 ≡ suc (length xs - 0) = omega arith in
    rw (here, count)
    (ap (λ (cs : List (Option Cell)). None ∷ cs)
    (padded [] xs come (i + 1) (λ j c e. (let none : None ≡ Some c = e in cc)) (omega arith)
    (λ j. subst (λ (k : ℕ). come k ≡ false) (omega arith) (link (suc j)))))
padded (c ∷ cs) [] come i f le link = absurd (omega (arith, le))
padded (c ∷ cs) (x ∷ xs) come i f le link =
    let here : come i ≡ is_some c = subst (λ (k : ℕ). come k ≡ is_some c) (omega arith) (link 0) in
    let count : length (x ∷ xs) - length (c ∷ cs) ≡ length xs - length cs = omega arith in
    let rest : map held (marked xs come (i + 1)) ≡ cs ++ replicate (length xs - length cs) None =
    padded cs xs come (i + 1) (λ j d e. f (suc j) d e) (omega (arith, le))
    (λ j. subst (λ (k : ℕ). come k ≡ there cs j) (omega arith) (link (suc j))) in
    rw (here, count, rest)
    (ap (λ (o : Option Cell). o ∷ (cs ++ replicate (length xs - length cs) None)) (one c (λ d e. f 0 d e)))
  where
    one : (c : Option Cell) → ((d : Cell) → c ≡ Some d → Some x ≡ Some d) → (if is_some c then Some x else None) ≡ c
    one None g = refl
    one (Some d) g = g d refl

all_padded : (field : List Cell) (come : ℕ → Bool) (i : ℕ) → ((j : ℕ) → come (i + j) ≡ true)
    → map held (marked field come i) ≡ somes field
all_padded [] come i all = refl
all_padded (x ∷ xs) come i all =
    let here : come i ≡ true = subst (λ (k : ℕ). come k ≡ true) (omega arith) (all 0) in
    rw here
    (ap (λ (cs : List (Option Cell)). Some x ∷ cs)
    (all_padded xs come (i + 1) (λ j. subst (λ (k : ℕ). come k ≡ true) (omega arith) (all (suc j)))))

-- ---- a gap at a field's end

joined_gap : (n : ℕ) (j : Joined) → joined j (replicate (suc n) None) ≡ broken j
joined_gap zero j = refl
joined_gap (suc n) j = joined_gap n (broken j)

gap_end : (h : Held) (field : List Cell) (from : ℕ) (j : Joined) → SlotFits h field
    → broken_unless (has_end h) (joined j (drop from h.cells))
    ≡ joined j (drop from h.cells ++ replicate (length field - length h.cells) None)
gap_end h field from j fits = go h.size fits.size fits.short
  where
    done : (n : ℕ) → length field - length h.cells ≡ n
        → joined j (drop from h.cells ++ replicate n None) ≡ joined (joined j (drop from h.cells)) (replicate n None)
    done n e = sym (joined_append j (drop from h.cells) (replicate n None))

    ended : length h.cells ≡ length field → joined j (drop from h.cells)
        ≡ joined j (drop from h.cells ++ replicate (length field - length h.cells) None)
    ended e = let none : length field - length h.cells ≡ 0 = omega (arith, e) in
        rw none (ap (λ (cs : List (Option Cell)). joined j cs) (sym (append-nil (drop from h.cells))))

    open_end : length h.cells < length field
        → broken (joined j (drop from h.cells))
        ≡ joined j (drop from h.cells ++ replicate (length field - length h.cells) None)
    open_end lt =
        let count : length field - length h.cells ≡ suc (length field - length h.cells - 1) = omega (arith, lt) in
        rw count (sym (joined_gap (length field - length h.cells - 1) (joined j (drop from h.cells)))
        ∙ joined_append j (drop from h.cells) (replicate (suc (length field - length h.cells - 1)) None))

    go : (o : Option ℕ) → ((n : ℕ) → o ≡ Some n → n ≡ length field) → (o ≡ None → length h.cells < length field)
        → broken_unless (ends_at o (length h.cells)) (joined j (drop from h.cells))
        ≡ joined j (drop from h.cells ++ replicate (length field - length h.cells) None)
    go None size short = open_end (short refl)
    go (Some n) size short = elim (cases_lt (length h.cells) (length field)) [
      | inl lt ↦ rw (ne_eqb n (length h.cells) (λ e. omega (arith, e, size n refl, lt))) (open_end lt)
      | inr ge ↦ let same : n ≡ length h.cells = omega (arith, size n refl, ge, fits.within) in
          rw (eq-eqb n (length h.cells) same) (ended (omega (arith, ge, fits.within)))
    ]

-- ---- all numbers

map_append : (xs ys : List Place) → map held (xs ++ ys) ≡ map held xs ++ map held ys
map_append [] ys = refl
map_append (x ∷ xs) ys = ap (λ (cs : List (Option Cell)). held x ∷ cs) (map_append xs ys)

take_parts : (g : ℕ) (cs ps : List (Option Cell)) → g ≤ length cs → take g cs ++ (drop g cs ++ ps) ≡ cs ++ ps
take_parts zero cs ps h = refl
take_parts (suc g) [] ps h = absurd (omega (arith, h))
take_parts (suc g) (c ∷ cs) ps h = ap (λ (xs : List (Option Cell)). c ∷ xs) (take_parts g cs ps (omega (arith, h)))

before_front : (field : ℕ → List Cell) (come : ℕ → ℕ → Bool) (n : ℕ) → ((k i : ℕ) → k < n → come k i ≡ true)
    → map held (places field come n) ≡ somes (stream field n)
before_front field come zero all = refl
before_front field come (suc n) all =
    map_append (places field come n) (marked (field n) (come n) 0)
    ∙ ap (λ (cs : List (Option Cell)). cs ++ map held (marked (field n) (come n) 0))
    (before_front field come n (λ k i h. all k i (omega (arith, h))))
    ∙ ap (λ (cs : List (Option Cell)). somes (stream field n) ++ cs)
    (all_padded (field n) (come n) 0 (λ j. all n (0 + j) (omega arith)))
    ∙ sym (somes_append (stream field n) (field n))

salvaged_all : (field : ℕ → List Cell) (come : ℕ → ℕ → Bool) (slots : List Held) (n given : ℕ)
    → ((k : ℕ) → k < length slots → SlotFits (slot_at slots k) (field (n + k)))
    → ((k i : ℕ) → k < length slots → come (n + k) i ≡ there (slot_at slots k).cells i)
    → given ≤ length (slot_at slots 0).cells
    → salvaged (joined empty (map held (places field come n) ++ take given (slot_at slots 0).cells)) slots given
    ≡ joined empty (map held (places field come (n + length slots)))
salvaged_all field come [] n given fits link h =
    let none : given ≡ 0 = omega (arith, h) in
    let same : n + 0 ≡ n = omega arith in
    rw (none, same) (ap (λ (cs : List (Option Cell)). joined empty cs) (append-nil (map held (places field come n))))
salvaged_all field come (s ∷ ss) n given fits link h =
    let fit : SlotFits s (field n) = subst (λ (k : ℕ). SlotFits s (field k)) (omega arith) (fits 0 (omega arith)) in
    let here : (i : ℕ) → come n i ≡ there s.cells i =
    λ i. subst (λ (k : ℕ). come k i ≡ there s.cells i) (omega arith) (link 0 i (omega arith)) in
    let own : map held (marked (field n) (come n) 0) ≡ s.cells ++ replicate (length (field n) - length s.cells) None =
    padded s.cells (field n) (come n) 0 fit.cells fit.within
    (λ j. (let z : 0 + j ≡ j = omega arith in rw z (here j))) in
    let list : (map held (places field come n) ++ take given s.cells)
    ++ (drop given s.cells ++ replicate (length (field n) - length s.cells) None)
    ≡ map held (places field come (suc n)) =
    append_assoc (map held (places field come n)) (take given s.cells)
    (drop given s.cells ++ replicate (length (field n) - length s.cells) None)
    ∙ ap (λ (cs : List (Option Cell)). map held (places field come n) ++ cs)
    (take_parts given s.cells (replicate (length (field n) - length s.cells) None) h ∙ sym own)
    ∙ sym (map_append (places field come n) (marked (field n) (come n) 0)) in
    let one : broken_unless (has_end s)
    (joined (joined empty (map held (places field come n) ++ take given s.cells)) (drop given s.cells))
    ≡ joined empty (map held (places field come (suc n)) ++ take 0 (slot_at ss 0).cells) =
    gap_end s (field n) given (joined empty (map held (places field come n) ++ take given s.cells)) fit
    ∙ joined_append empty (map held (places field come n) ++ take given s.cells)
    (drop given s.cells ++ replicate (length (field n) - length s.cells) None)
    ∙ ap (λ (cs : List (Option Cell)). joined empty cs)
    (list ∙ sym (append-nil (map held (places field come (suc n))))) in
    let count : suc n + length ss ≡ n + length (s ∷ ss) = omega arith in
    ap (λ (j : Joined). salvaged j ss 0) one
    ∙ salvaged_all field come ss (suc n) 0
    (λ k below. subst (λ (m : ℕ). SlotFits (slot_at ss k) (field m)) (omega arith)
    (fits (suc k) (omega (arith, below))))
    (λ k i below. subst (λ (m : ℕ). come m i ≡ there (slot_at ss k).cells i) (omega arith)
    (link (suc k) i (omega (arith, below))))
    (omega arith)
    ∙ ap (λ (m : ℕ). joined empty (map held (places field come m))) count

-- ---- each SDU begins where the one before it ends

abbrev ends_of : Bool → List Place → Bool
ends_of b [] = b
ends_of b (p ∷ ps) = ends_of p.cell.ends ps

chain_append : (b : Bool) (ps qs : List Place) → IsChain b ps → IsChain (ends_of b ps) qs → IsChain b (ps ++ qs)
chain_append b [] qs c d = d
chain_append b (p ∷ ps) qs c d = (c.0, chain_append p.cell.ends ps qs c.1 d)

ends_append : (b : Bool) (ps qs : List Place) → ends_of b (ps ++ qs) ≡ ends_of (ends_of b ps) qs
ends_append b [] qs = refl
ends_append b (p ∷ ps) qs = ends_append p.cell.ends ps qs

chain_marked : (cells : List Cell) (come : ℕ → Bool) (i : ℕ) (b : Bool)
    → ((k : ℕ) (c d : Cell) → slice_get cells k ≡ Some c → slice_get cells (k + 1) ≡ Some d → c.ends ≡ d.begins)
    → ((c : Cell) → slice_get cells 0 ≡ Some c → c.begins ≡ b) → IsChain b (marked cells come i)
chain_marked [] come i b edges first = tt
chain_marked (c ∷ cs) come i b edges first = (
  first c refl,
  chain_marked cs come (i + 1) c.ends
      (λ k d e f g. edges (suc k) d e f (let next : suc k + 1 ≡ suc (k + 1) = omega arith in
      ap (λ (n : ℕ). slice_get (c ∷ cs) n) next ∙ g)) (λ d f. sym (edges 0 c d refl f)),
)

ends_marked : (cells : List Cell) (come : ℕ → Bool) (i : ℕ) (b : Bool) (c : Cell)
    → slice_get cells (length cells - 1) ≡ Some c → ends_of b (marked cells come i) ≡ c.ends
ends_marked [] come i b c e = (let none : None ≡ Some c = e in cc)
ends_marked (x ∷ []) come i b c e =
    (let same : Some x ≡ Some c = e in let is : x ≡ c = cc in ap (λ (d : Cell). d.ends) is)
ends_marked (x ∷ y ∷ cs) come i b c e =
    let less : length (x ∷ y ∷ cs) - 1 ≡ suc (length (y ∷ cs) - 1) = omega arith in
    ends_marked (y ∷ cs) come (i + 1) x.ends c (ap (λ (k : ℕ). slice_get (x ∷ y ∷ cs) k) (sym less) ∙ e)

last_cell : (cells : List Cell) → 1 ≤ length cells → (c : Cell) × (slice_get cells (length cells - 1) ≡ Some c)
last_cell [] h = absurd (omega (arith, h))
last_cell (x ∷ []) h = (x, refl)
last_cell (x ∷ y ∷ cs) h =
    let r = last_cell (y ∷ cs) (omega arith) in
    let less : length (x ∷ y ∷ cs) - 1 ≡ suc (length (y ∷ cs) - 1) = omega arith in
    (r.0, ap (λ (k : ℕ). slice_get (x ∷ y ∷ cs) k) less ∙ r.1)

chain_all : (field : ℕ → List Cell) → IsStream field → (come : ℕ → ℕ → Bool) (n : ℕ)
    → IsChain true (places field come n)
    × ((d : Cell) → slice_get (field n) 0 ≡ Some d → d.begins ≡ ends_of true (places field come n))
chain_all field is come zero = (tt, λ d e. is.begins d e)
chain_all field is come (suc n) =
    let r = chain_all field is come n in
    let last = last_cell (field n) (is.fields n).some in
    let ends : ends_of true (places field come (suc n)) ≡ last.0.ends =
    ends_append true (places field come n) (marked (field n) (come n) 0)
    ∙ ends_marked (field n) (come n) 0 (ends_of true (places field come n)) last.0 last.1 in
    let next : n + 1 ≡ suc n = omega arith in (
      chain_append true (places field come n) (marked (field n) (come n) 0) r.0
          (chain_marked (field n) (come n) 0 (ends_of true (places field come n)) (is.fields n).edges r.1),
      λ d e. sym (is.edges n last.0 d last.1 (ap (λ (k : ℕ). slice_get (field k) 0) next ∙ e)) ∙ sym ends,
    )

-- ---- along a run

take_lead : (cells ps : List (Option Cell)) → take (length (leading cells)) cells ≡ leading cells
take_lead [] ps = refl
take_lead (None ∷ cs) ps = refl
take_lead (Some c ∷ cs) ps = ap (λ (xs : List (Option Cell)). Some c ∷ xs) (take_lead cs ps)

lead_length : (cells : List (Option Cell)) → length (leading cells) ≤ length cells
lead_length [] = omega arith
lead_length (None ∷ cs) = omega arith
lead_length (Some c ∷ cs) = omega (arith, lead_length cs)

finished_by : (field : ℕ → List Cell) → IsStream field → (w : World) (gone : List (List ℕ)) → Keeps w
    → Flows field (record { state = w.state; gone = gone }) → IsFinished field w gone
finished_by field is w gone k f = record {
  sdus =
      ap (λ (j : Joined). j.ready) (sym (salvaged_behind gone w.state.out slots given)
      ∙ ap (λ (j : Joined). salvaged j slots given) f.total
      ∙ ap (λ (j : Joined). salvaged j slots given) start
      ∙ salvaged_all field come slots front given (λ n below. f.fits n) link
      (omega (arith, f.given, lead_length (slot_at slots 0).cells)))
      ∙ ready_is_whole (places field come (front + length slots)) true [] empty
      (chain_all field is come (front + length slots)).0 (refl, inl refl);
}
  where
    slots : List Held
    slots = w.state.window.slots

    front : ℕ
    front = w.state.window.front

    given : ℕ
    given = w.state.window.given

    come : ℕ → ℕ → Bool
    come = arrived_in w

    link : (n i : ℕ) → n < length slots → come (front + n) i ≡ there (slot_at slots n).cells i
    link n i below = rw (le-ltb (front + n) front (omega arith)) (sym ((k.agrees.slots_match n).cells i))

    below_front : (n i : ℕ) → n < front → come n i ≡ true
    below_front n i below = rw (lt-ltb n front below) refl

    start : put_to field front given
        ≡ joined empty (map held (places field come front) ++ take given (slot_at slots 0).cells)
    start =
        let zero_is : front + 0 ≡ front = omega arith in
        let fit : SlotFits (slot_at slots 0) (field front) =
        subst (λ (n : ℕ). SlotFits (slot_at slots 0) (field n)) zero_is (f.fits 0) in
        let lead : somes (take given (field front)) ≡ take given (slot_at slots 0).cells =
        rw f.given (sym (lead-take (slot_at slots 0).cells (field front) fit.cells)
        ∙ sym (take_lead (slot_at slots 0).cells [])) in
        ap (λ (cs : List (Option Cell)). joined empty cs)
        (somes_append (stream field front) (take given (field front))
        ∙ ap (λ (cs : List (Option Cell)). cs ++ somes (take given (field front)))
        (sym (before_front field come front below_front))
        ∙ ap (λ (cs : List (Option Cell)). map held (places field come front) ++ cs) lead)

pub same_state : (calls : List Call) (f : Flow) (w : World) → f.state ≡ w.state
    → (flow calls f).state ≡ (run_am_receiver calls w).state
same_state [] f w e = e
same_state (c ∷ cs) f w e = same_state cs (flows f c) (happens w c) (ap (λ (s : State). state_after s c) e)

pub finishes : (field : ℕ → List Cell) (config : AmRxConfig) (calls : List Call) → IsStream field
    → AreHonest field (initial config).state calls
    → IsFinished field (run_am_receiver calls (begin config)) (flow calls (initial config)).gone
finishes field config calls is honest =
    let h : Flows field (flow calls (initial config)) =
    flow-flows field calls (initial config) honest (initial-flows field config is.fields) in
    let same : (flow calls (initial config)).state ≡ (run_am_receiver calls (begin config)).state =
    same_state calls (initial config) (begin config) refl in
    finished_by field is (run_am_receiver calls (begin config)) (flow calls (initial config)).gone
    (run-keeps calls (begin config) (fresh-keeps config))
    (subst (λ (s : State). Flows field (record { state = s; gone = (flow calls (initial config)).gone })) same
    (record { fits = h.fits; given = h.given; total = h.total }))
