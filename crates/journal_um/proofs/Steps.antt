-- The account of a life tells what its history says, event by event.
use Rattle.std.proofs.Common.{◌≡◌, ◌<◌, ◌≤◌, ℕ, ◌+◌, ◌-◌, ◌*◌, ◌%◌, Bool, true, false, ◌||◌, ◌&&◌, if◌then◌else◌, List}
use Rattle.std.proofs.Common.{◌∷◌, Option, Some, None, is_some, nat_lt, nat_le, max, inl, inr}
use Rattle.std.proofs.Common.{refl, ap, sym, subst, ◌∙◌, arith}
use Rattle.std.specs.Option.{option_or}
use Rattle.std.proofs.lemmas.Bool.{cases_lt, cases_eq, ne_eqb, eq-eqb, lt-ltb}
use Rattle.std.proofs.lemmas.Bool.Decides.{nat_tests}
use Rattle.std.proofs.Math.Nat.{mod-lt}
use Rattle.journal_um.specs.declared.pieces.Piece.{Piece}
use Rattle.journal_um.specs.UmEvents.{UmEvent, PduArrived, ReorderStarted, ReorderExpired}
use Rattle.journal_um.specs.UmNumbers.{read_number, number_above, top_in, mark_in, expired_mark, base_in, is_number}
use Rattle.journal_um.specs.UmNumbers.{offered_as, pdu_of}
use Rattle.journal_um.specs.UmLosses.{far_came}
use Rattle.journal_um.specs.UmWindow.{UmWindow, top_of, pdu_at, is_dropped}
use Rattle.journal_um.specs.UmJoiner.{UmJoiner}
use Rattle.journal_um.specs.UmFlow.{UmFlow, pass, kept, landed, numbered, read_in, living}
use Rattle.journal_um.proofs.Either.{or-false, or-assoc}
use Rattle.journal_um.proofs.Reading.{read_is}
use Rattle.journal_um.proofs.Accepting.{nothing_else, none_above, mark_low}
use Rattle.journal_um.proofs.Keeping.{Holds, Rests, rests-same, pass-holds, advanced-rests, kept-rests}

pub record Stands (width : ℕ) (es : List UmEvent) (j0 : UmJoiner) (far0 : Bool) (f : UmFlow) : Type 0 where
  pub wide : f.window.width ≡ width
  pub rests : Rests (pdu_of width es) (base_in width es) (top_in width es) j0 f.window f.joiner
  pub mark : f.mark ≡ mark_in width es
  pub far : f.far ≡ (far0 || far_came width es)

rests-moved : (p : ℕ → Option (List Piece)) (base base' top top' : ℕ) (j0 : UmJoiner) (w : UmWindow) (j : UmJoiner)
    → base ≡ base' → top ≡ top' → Rests p base top j0 w j → Rests p base' top' j0 w j
rests-moved p base base' top top' j0 w j e g r =
    subst (λ (b : ℕ). Rests p b top' j0 w j) e (subst (λ (t : ℕ). Rests p base t j0 w j) g r)

-- ---- t-Reordering

started : (width : ℕ) (es : List UmEvent) (j0 : UmJoiner) (far0 : Bool) (f : UmFlow) → Stands width es j0 far0 f
    → Stands width (ReorderStarted ∷ es) j0 far0 (living ReorderStarted f)
started width es j0 far0 f s = record {
  wide = s.wide;
  rests = rests-moved (pdu_of width (ReorderStarted ∷ es)) (base_in width es) (base_in width (ReorderStarted ∷ es))
      (top_in width es) (top_in width (ReorderStarted ∷ es)) j0 f.window f.joiner (omega arith) (omega arith)
      (rests-same (pdu_of width es) (pdu_of width (ReorderStarted ∷ es)) (base_in width es) (top_in width es) j0
      f.window f.joiner (λ n. nothing_else (pdu_of width es n)) s.rests);
  mark = s.rests.holds.top_is;
  far = s.far ∙ ap (λ (b : Bool). far0 || b) (sym (or-false (far_came width es)));
}

expired : (width : ℕ) (es : List UmEvent) (j0 : UmJoiner) (far0 : Bool) (f : UmFlow) → Stands width es j0 far0 f
    → Stands width (ReorderExpired ∷ es) j0 far0 (living ReorderExpired f)
expired width es j0 far0 f s =
    let h = s.rests.holds in
    let from = h.from in
    let t = h.top_is in
    let m = s.mark in
    let low = mark_low width es in
    let moved : Holds (pdu_of width es) (base_in width (ReorderExpired ∷ es)) (top_in width es) j0
    (pass (f.mark - f.window.edge) f).window (pass (f.mark - f.window.edge) f).joiner =
    pass-holds (pdu_of width es) (base_in width es) (base_in width (ReorderExpired ∷ es)) (top_in width es) j0
    f.window f.joiner (f.mark - f.window.edge) (omega (arith, t, m, low)) (omega arith) (omega (arith, from, m))
    (λ k lt a. absurd (omega (arith, lt, a, m))) h in
    let on = advanced-rests (pdu_of width es) (base_in width (ReorderExpired ∷ es)) (top_in width es) j0
    (pass (f.mark - f.window.edge) f) moved in
    record {
      wide = s.wide;
      rests = rests-moved (pdu_of width (ReorderExpired ∷ es)) (base_in width (ReorderExpired ∷ es))
          (base_in width (ReorderExpired ∷ es)) (top_in width es) (top_in width (ReorderExpired ∷ es)) j0
          (living ReorderExpired f).window (living ReorderExpired f).joiner refl (omega arith)
          (rests-same (pdu_of width es) (pdu_of width (ReorderExpired ∷ es)) (base_in width (ReorderExpired ∷ es))
          (top_in width es) j0 (living ReorderExpired f).window (living ReorderExpired f).joiner
          (λ n. nothing_else (pdu_of width es n)) on);
      mark = s.mark;
      far = s.far ∙ ap (λ (b : Bool). far0 || b) (sym (or-false (far_came width es)));
    }

-- ---- a PDU comes

offer-none : (width number n : ℕ) (pieces : List Piece) (es : List UmEvent)
    → is_number (read_number width (top_in width es) (number % (2 * width))) n ≡ false
    → offered_as width (PduArrived number pieces) es n ≡ None
offer-none width number n pieces es other = rw other refl

offer-low : (width number n : ℕ) (pieces : List Piece) (es : List UmEvent) → n < base_in width es
    → offered_as width (PduArrived number pieces) es n ≡ None
offer-low width number n pieces es low =
    by (is_number (read_number width (top_in width es) (number % (2 * width))) n)
    (nat_le (base_in width es) n) (grind (arith, nat_tests, low))
  where
    by : (b c : Bool) → c ≡ false → (if b && c then Some pieces else None) ≡ None
    by true c e = rw e refl
    by false c e = refl

offer-this : (width number n : ℕ) (pieces : List Piece) (es : List UmEvent)
    → read_number width (top_in width es) (number % (2 * width)) ≡ Some n → base_in width es ≤ n
    → offered_as width (PduArrived number pieces) es n ≡ Some pieces
offer-this width number n pieces es is from =
    let same : is_number (read_number width (top_in width es) (number % (2 * width))) n ≡ true =
    ap (λ (o : Option ℕ). is_number o n) is ∙ eq-eqb n n refl in
    let high : nat_le (base_in width es) n ≡ true = grind (arith, nat_tests, from) in
    rw (same, high) refl

kept-first : (o more : Option (List Piece)) → is_some o ≡ true → option_or o more ≡ o
kept-first None more e = absurd cc
kept-first (Some p) more e = refl

is-none : (o : Option (List Piece)) → is_some o ≡ false → o ≡ None
is-none None e = refl
is-none (Some p) e = absurd cc

pdu-more : (width number n : ℕ) (pieces : List Piece) (es : List UmEvent)
    → offered_as width (PduArrived number pieces) es n ≡ None
    → pdu_of width (PduArrived number pieces ∷ es) n ≡ pdu_of width es n
pdu-more width number n pieces es e =
    ap (λ (o : Option (List Piece)). option_or (pdu_of width es n) o) e ∙ nothing_else (pdu_of width es n)

-- one that is read as no number
landed-none : (width number : ℕ) (pieces : List Piece) (es : List UmEvent) (j0 : UmJoiner) (far0 : Bool) (f : UmFlow)
    → read_number width (top_in width es) (number % (2 * width)) ≡ None → Stands width es j0 far0 f
    → Rests (pdu_of width (PduArrived number pieces ∷ es)) (base_in width (PduArrived number pieces ∷ es))
    (top_in width (PduArrived number pieces ∷ es)) j0 f.window f.joiner
landed-none width number pieces es j0 far0 f none s =
    let top : max (top_in width es) (number_above (read_number width (top_in width es) (number % (2 * width))))
    ≡ top_in width es = ap (λ (o : Option ℕ). max (top_in width es) (number_above o)) none ∙ omega arith in
    rests-moved (pdu_of width (PduArrived number pieces ∷ es)) (base_in width es)
    (base_in width (PduArrived number pieces ∷ es)) (top_in width es) (top_in width (PduArrived number pieces ∷ es)) j0
    f.window f.joiner (ap (λ (t : ℕ). max (t - width) (expired_mark width es)) (sym top)) (sym top)
    (rests-same (pdu_of width es) (pdu_of width (PduArrived number pieces ∷ es)) (base_in width es) (top_in width es)
    j0 f.window f.joiner
    (λ n. pdu-more width number n pieces es
    (offer-none width number n pieces es (ap (λ (o : Option ℕ). is_number o n) none))) s.rests)

-- one that is dropped: its number was accepted, or lies below the base
pub data IsOld (width x : ℕ) (es : List UmEvent) : Type 0 where
  Low : x < base_in width es → IsOld width x es
  Known : is_some (pdu_of width es x) ≡ true → IsOld width x es

is-old : (width x : ℕ) (es : List UmEvent) (j0 : UmJoiner) (f : UmFlow)
    → Holds (pdu_of width es) (base_in width es) (top_in width es) j0 f.window f.joiner
    → is_dropped x f.window ≡ true → IsOld width x es
is-old width x es j0 f h e = elim (cases_lt x f.window.edge) [
  | inl lt ↦ elim (cases_lt x (base_in width es)) [
    | inl low ↦ Low low
    | inr from ↦ Known (h.between x from lt)
  ]
  | inr le ↦
      let no : nat_lt x f.window.edge ≡ false = grind (arith, nat_tests, le) in
      let there : is_some (pdu_at f.window.pdus (x - f.window.edge)) ≡ true =
      sym (ap (λ (b : Bool). b || is_some (pdu_at f.window.pdus (x - f.window.edge))) no) ∙ e in
      let at : f.window.edge + (x - f.window.edge) ≡ x = omega (arith, le) in
      Known (ap is_some (sym (h.are (x - f.window.edge) ∙ ap (pdu_of width es) at)) ∙ there)
]

old-same : (width number x n : ℕ) (pieces : List Piece) (es : List UmEvent)
    → read_number width (top_in width es) (number % (2 * width)) ≡ Some x → IsOld width x es
    → pdu_of width (PduArrived number pieces ∷ es) n ≡ pdu_of width es n
old-same width number x n pieces es is old = elim (cases_eq x n) [
  | inl same ↦ by n same old
  | inr other ↦ pdu-more width number n pieces es
      (offer-none width number n pieces es (ap (λ (o : Option ℕ). is_number o n) is ∙ ne_eqb x n other))
]
  where
    by : (m : ℕ) → x ≡ m → IsOld width x es → pdu_of width (PduArrived number pieces ∷ es) m ≡ pdu_of width es m
    by m same (Low low) =
        pdu-more width number m pieces es (offer-low width number m pieces es (omega (arith, low, same)))
    by m same (Known there) = kept-first (pdu_of width es m) (offered_as width (PduArrived number pieces) es m)
        (ap (λ (k : ℕ). is_some (pdu_of width es k)) (sym same) ∙ there)

old-below : (width x : ℕ) (es : List UmEvent) (j0 : UmJoiner) (f : UmFlow)
    → Holds (pdu_of width es) (base_in width es) (top_in width es) j0 f.window f.joiner → IsOld width x es
    → x + 1 ≤ top_in width es
old-below width x es j0 f h (Low low) = let from = h.from in let t = h.top_is in omega (arith, low, from, t)
old-below width x es j0 f h (Known there) = elim (cases_lt x (top_in width es)) [
  | inl lt ↦ omega (arith, lt)
  | inr le ↦ absurd (let no = ap is_some (none_above width es x le) in cc)
]

landed-old : (width number x : ℕ) (pieces : List Piece) (es : List UmEvent) (j0 : UmJoiner) (far0 : Bool) (f : UmFlow)
    → read_number width (top_in width es) (number % (2 * width)) ≡ Some x → is_dropped x f.window ≡ true
    → Stands width es j0 far0 f
    → Rests (pdu_of width (PduArrived number pieces ∷ es)) (base_in width (PduArrived number pieces ∷ es))
    (top_in width (PduArrived number pieces ∷ es)) j0 f.window f.joiner
landed-old width number x pieces es j0 far0 f is e s =
    let old = is-old width x es j0 f s.rests.holds e in
    let low = old-below width x es j0 f s.rests.holds old in
    let top : max (top_in width es) (number_above (read_number width (top_in width es) (number % (2 * width))))
    ≡ top_in width es =
    ap (λ (o : Option ℕ). max (top_in width es) (number_above o)) is ∙ omega (arith, low) in
    rests-moved (pdu_of width (PduArrived number pieces ∷ es)) (base_in width es)
    (base_in width (PduArrived number pieces ∷ es)) (top_in width es) (top_in width (PduArrived number pieces ∷ es)) j0
    f.window f.joiner (ap (λ (t : ℕ). max (t - width) (expired_mark width es)) (sym top)) (sym top)
    (rests-same (pdu_of width es) (pdu_of width (PduArrived number pieces ∷ es)) (base_in width es) (top_in width es)
    j0 f.window f.joiner (λ n. old-same width number x n pieces es is old) s.rests)

-- one that is accepted
landed-new : (width number x : ℕ) (pieces : List Piece) (es : List UmEvent) (j0 : UmJoiner) (far0 : Bool) (f : UmFlow)
    → 0 < width → read_number width (top_in width es) (number % (2 * width)) ≡ Some x
    → is_dropped x f.window ≡ false → Stands width es j0 far0 f
    → Rests (pdu_of width (PduArrived number pieces ∷ es)) (base_in width (PduArrived number pieces ∷ es))
    (top_in width (PduArrived number pieces ∷ es)) j0 (kept (x - f.window.edge) pieces f).window
    (kept (x - f.window.edge) pieces f).joiner
landed-new width number x pieces es j0 far0 f some is e s =
    let h = s.rests.holds in
    let from = h.from in
    let t = h.top_is in
    let wide = s.wide in
    let size : 0 < 2 * width = omega (arith, some) in
    let near = (read_is width (top_in width es) (number % (2 * width)) x some (mod-lt number size) is).below in
    let le : f.window.edge ≤ x = above in
    let at : f.window.edge + (x - f.window.edge) ≡ x = omega (arith, le) in
    let free : pdu_of width es x ≡ None =
    is-none (pdu_of width es x)
    (ap is_some (sym (h.are (x - f.window.edge) ∙ ap (pdu_of width es) at)) ∙ absent) in
    let this : pdu_of width (PduArrived number pieces ∷ es) (f.window.edge + (x - f.window.edge)) ≡ Some pieces =
    ap (pdu_of width (PduArrived number pieces ∷ es)) at
    ∙ ap (λ (o : Option (List Piece)). option_or o (offered_as width (PduArrived number pieces) es x)) free
    ∙ offer-this width number x pieces es is (omega (arith, from, le)) in
    let others : (n : ℕ) → (n ≡ f.window.edge + (x - f.window.edge) → ⊥)
    → pdu_of width (PduArrived number pieces ∷ es) n ≡ pdu_of width es n =
    (λ n other. pdu-more width number n pieces es (offer-none width number n pieces es
    (ap (λ (o : Option ℕ). is_number o n) is ∙ ne_eqb x n (λ g. other (omega (arith, g, at)))))) in
    let top : max (top_in width es) (f.window.edge + (x - f.window.edge) + 1)
    ≡ max (top_in width es) (number_above (read_number width (top_in width es) (number % (2 * width)))) =
    ap (λ (y : ℕ). max (top_in width es) (y + 1)) at
    ∙ sym (ap (λ (o : Option ℕ). max (top_in width es) (number_above o)) is) in
    rests-moved (pdu_of width (PduArrived number pieces ∷ es))
    (max (max (top_in width es) (f.window.edge + (x - f.window.edge) + 1) - f.window.width) (expired_mark width es))
    (base_in width (PduArrived number pieces ∷ es)) (max (top_in width es) (f.window.edge + (x - f.window.edge) + 1))
    (top_in width (PduArrived number pieces ∷ es)) j0 (kept (x - f.window.edge) pieces f).window
    (kept (x - f.window.edge) pieces f).joiner
    (ap (λ (w : ℕ). max (max (top_in width es) (f.window.edge + (x - f.window.edge) + 1) - w) (expired_mark width es))
    wide ∙ ap (λ (m : ℕ). max (m - width) (expired_mark width es)) top) top
    (kept-rests (pdu_of width es) (pdu_of width (PduArrived number pieces ∷ es)) (base_in width es) (top_in width es)
    (expired_mark width es) (x - f.window.edge) pieces j0 f
    (ap (λ (w : ℕ). max (top_in width es - w) (expired_mark width es)) (sym wide)) (omega (arith, wide, some))
    (omega (arith, near, t, wide, le)) this others h)
  where
    above : f.window.edge ≤ x
    above = elim (cases_lt x f.window.edge) [
      | inl lt ↦ absurd (let yes = lt-ltb x f.window.edge lt in
          let no = sym (ap (λ (b : Bool). b || is_some (pdu_at f.window.pdus (x - f.window.edge))) yes) ∙ e in cc)
      | inr le ↦ le
    ]

    absent : is_some (pdu_at f.window.pdus (x - f.window.edge)) ≡ false
    absent =
        let no : nat_lt x f.window.edge ≡ false = grind (arith, nat_tests, above) in
        sym (ap (λ (b : Bool). b || is_some (pdu_at f.window.pdus (x - f.window.edge))) no) ∙ e

far_is : (width number : ℕ) (es : List UmEvent) (far0 : Bool) (f : UmFlow) → f.window.width ≡ width
    → top_of f.window ≡ top_in width es → f.far ≡ (far0 || far_came width es)
    → (numbered number f).far ≡ (far0 || (far_came width es || nat_le (top_in width es + width) number))
far_is width number es far0 f wide top far =
    ap (λ (b : Bool). b || nat_le (top_of f.window + f.window.width) number) far
    ∙ ap (λ (w : ℕ). (far0 || far_came width es) || nat_le (top_of f.window + w) number) wide
    ∙ ap (λ (t : ℕ). (far0 || far_came width es) || nat_le (t + width) number) top
    ∙ or-assoc far0 (far_came width es) (nat_le (top_in width es + width) number)

landed-some : (b : Bool) (width number x : ℕ) (pieces : List Piece) (es : List UmEvent) (j0 : UmJoiner) (far0 : Bool)
    (f : UmFlow) → 0 < width → read_number width (top_in width es) (number % (2 * width)) ≡ Some x
    → is_dropped x f.window ≡ b → Stands width es j0 far0 f
    → Stands width (PduArrived number pieces ∷ es) j0 far0
    (if b then numbered number f else kept (x - f.window.edge) pieces (numbered number f))
landed-some true width number x pieces es j0 far0 f some is e s = record {
  wide = s.wide;
  rests = landed-old width number x pieces es j0 far0 f is e s;
  mark = s.mark;
  far = far_is width number es far0 f s.wide s.rests.holds.top_is s.far;
}
landed-some false width number x pieces es j0 far0 f some is e s = record {
  wide = s.wide;
  rests = landed-new width number x pieces es j0 far0 f some is e s;
  mark = s.mark;
  far = far_is width number es far0 f s.wide s.rests.holds.top_is s.far;
}

landed-any : (o : Option ℕ) (width number : ℕ) (pieces : List Piece) (es : List UmEvent) (j0 : UmJoiner)
    (far0 : Bool) (f : UmFlow) → 0 < width
    → read_number width (top_in width es) (number % (2 * width)) ≡ o → Stands width es j0 far0 f
    → Stands width (PduArrived number pieces ∷ es) j0 far0 (landed o pieces (numbered number f))
landed-any None width number pieces es j0 far0 f some is s = record {
  wide = s.wide;
  rests = landed-none width number pieces es j0 far0 f is s;
  mark = s.mark;
  far = far_is width number es far0 f s.wide s.rests.holds.top_is s.far;
}
landed-any (Some x) width number pieces es j0 far0 f some is s =
    landed-some (is_dropped x f.window) width number x pieces es j0 far0 f some is refl s

-- ---- any event

pub step : (width : ℕ) (e : UmEvent) (es : List UmEvent) (j0 : UmJoiner) (far0 : Bool) (f : UmFlow) → 0 < width
    → Stands width es j0 far0 f → Stands width (e ∷ es) j0 far0 (living e f)
step width (PduArrived number pieces) es j0 far0 f some s =
    let top = s.rests.holds.top_is in
    let wide = s.wide in
    let read : read_in number f ≡ read_number width (top_in width es) (number % (2 * width)) =
    ap (λ (w : ℕ). read_number w (top_of f.window) (number % (2 * w))) wide
    ∙ ap (λ (t : ℕ). read_number width t (number % (2 * width))) top in
    landed-any (read_in number f) width number pieces es j0 far0 f some (sym read) s
step width ReorderStarted es j0 far0 f some s = started width es j0 far0 f s
step width ReorderExpired es j0 far0 f some s = expired width es j0 far0 f s
