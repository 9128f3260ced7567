-- The steps of the loops over subheaders.
use Rattle.std.proofs.Common.{◌≡◌, ℕ, ◌+◌, ◌<◌, ◌≤◌, Bool, true, false, not, cond, ltb, List, [], ◌∷◌, length, drop}
use Rattle.std.proofs.Common.{take, Option, Some, None, Ok, Err, refl, sym, ap, ◌∙◌, arith, inl, inr}
use Rattle.std.proofs.lemmas.Bool.{le-ltb, lt-ltb, cases_lt}
use Rattle.mac_pdu.specs.declared.item.Direction.{Direction}
use Rattle.mac_pdu.specs.declared.fault.MacWhy.{MacWhy}
use Rattle.mac_pdu.specs.declared.fault.MacWhy.TheVariants as why
use Rattle.mac_pdu.specs.declared.fault.MacRefusal.{MacRefusal}
use Rattle.mac_pdu.specs.declared.subheader.Stage.{Stage}
use Rattle.mac_pdu.specs.declared.subheader.Stage.TheVariants as stage
use Rattle.mac_pdu.specs.declared.subheader.Subheader.{Subheader}
use Rattle.mac_pdu.specs.declared.subheader.Kind.{Kind}
use Rattle.mac_pdu.specs.declared.subheader.Kind.TheVariants as kind
use Rattle.mac_pdu.specs.Subheaders.{subheader_at, payload_len, kind_payload, fault_of, after}
use Rattle.mac_pdu.specs.Items.{MacItem}
use Rattle.mac_pdu.specs.Refusals.{subheaders, first_fault, overrun, header_size, refusal_of}
use Rattle.mac_pdu.specs.Reading.{items, item_of, behind, reading}
use Rattle.mac_pdu.proofs.Walk.{walk_on, walk_last, heads_next, heads_end}

pub not_true : (b : Bool) → not b ≡ true → b ≡ false
not_true true e = sym e
not_true false e = refl

pub not_false : (b : Bool) → not b ≡ false → b ≡ true
not_false true e = refl
not_false false e = sym e

module _ (d : Direction) (rest : List ℕ) where
  pub size_on : (s : Subheader) → subheader_at d rest ≡ Some s → s.more ≡ true
      → header_size (subheaders d 0 rest) ≡ s.size + header_size (subheaders d 0 (drop s.size rest))
  size_on s e more = ap header_size (walk_on d rest s e more)

  pub size_last : (s : Subheader) → subheader_at d rest ≡ Some s → s.more ≡ false
      → header_size (subheaders d 0 rest) ≡ s.size
  size_last s e more = ap header_size (walk_last d rest s e more) ∙ omega arith

  module _ (at : ℕ) (st : Stage) (total : ℕ) where
    pub fault_end : subheader_at d rest ≡ None
        → first_fault st at total (subheaders d 0 rest) ≡ Some (record { at = total; why = why.Short })
    unfolding first_fault
    fault_end e = rw (heads_end d rest e) refl

    pub fault_on : (s : Subheader) → subheader_at d rest ≡ Some s → s.more ≡ true → fault_of st s.kind s.more ≡ None
        → first_fault st at total (subheaders d 0 rest)
        ≡ first_fault (after st s.kind) (at + s.size) total (subheaders d 0 (drop s.size rest))
    unfolding first_fault
    fault_on s e more none = rw (walk_on d rest s e more, none, more) refl

    pub fault_last : (s : Subheader) → subheader_at d rest ≡ Some s → s.more ≡ false → fault_of st s.kind s.more ≡ None
        → first_fault st at total (subheaders d 0 rest) ≡ None
    unfolding first_fault
    fault_last s e more none = rw (walk_last d rest s e more, none, more) refl

    pub fault_here : (s : Subheader) (w : MacWhy) → subheader_at d rest ≡ Some s → fault_of st s.kind s.more ≡ Some w
        → first_fault st at total (subheaders d 0 rest) ≡ Some (record { at = at; why = w })
    unfolding first_fault
    fault_here s w e some =
        elim s.more as (λ b. s.more ≡ b → first_fault st at total (subheaders d 0 rest)
        ≡ Some (record { at = at; why = w })) [
          | true ↦ λ more. rw (walk_on d rest s e more, some) refl
          | false ↦ λ more. rw (walk_last d rest s e more, some) refl
        ] refl

  module _ (at : ℕ) (body : List ℕ) where
    pub overrun_end : subheader_at d rest ≡ None → overrun at (subheaders d 0 rest) body ≡ None
    unfolding overrun
    overrun_end e = rw (heads_end d rest e) refl

    pub overrun_here : (s : Subheader) → subheader_at d rest ≡ Some s → length body < payload_len s (length body)
        → overrun at (subheaders d 0 rest) body ≡ Some at
    unfolding overrun
    overrun_here s e lt =
        let t : ltb (length body) (payload_len s (length body)) ≡ true = lt-ltb _ _ lt in
        elim s.more as (λ b. s.more ≡ b → overrun at (subheaders d 0 rest) body ≡ Some at) [
          | true ↦ λ more. rw (walk_on d rest s e more, t) refl
          | false ↦ λ more. rw (walk_last d rest s e more, t) refl
        ] refl

    pub overrun_on : (s : Subheader) → subheader_at d rest ≡ Some s → s.more ≡ true
        → payload_len s (length body) ≤ length body
        → overrun at (subheaders d 0 rest) body
        ≡ overrun (at + s.size) (subheaders d 0 (drop s.size rest)) (drop (payload_len s (length body)) body)
    unfolding overrun
    overrun_on s e more le = rw (walk_on d rest s e more, le-ltb (length body) (payload_len s (length body)) le) refl

    pub overrun_last : (s : Subheader) → subheader_at d rest ≡ Some s → s.more ≡ false
        → payload_len s (length body) ≤ length body
        → overrun at (subheaders d 0 rest) body ≡ None
    unfolding overrun
    overrun_last s e more le =
        rw (walk_last d rest s e more, le-ltb (length body) (payload_len s (length body)) le) refl

-- A reader's step.

some-not-none : {A : Type 0} (x : A) → Some x ≡ None → ⊥
some-not-none x e = cc

overrun_none : (a b : ℕ) (ss : List Subheader) (body : List ℕ) → overrun a ss body ≡ None → overrun b ss body ≡ None
unfolding overrun
overrun_none a b [] body e = refl
overrun_none a b (s ∷ ss) body e =
    let n = payload_len s (length body) in
    elim (cases_lt (length body) n) [
      | inl lt ↦ let bad : overrun a (s ∷ ss) body ≡ Some a = rw (lt-ltb (length body) n lt) refl in
          absurd (some-not-none a (sym bad ∙ e))
      | inr le ↦ let go : overrun a (s ∷ ss) body ≡ overrun (a + s.size) ss (drop n body) =
          rw (le-ltb (length body) n le) refl in
          rw (le-ltb (length body) n le) (overrun_none (a + s.size) (b + s.size) ss (drop n body) (sym go ∙ e))
    ]

again : (k : Kind) (more : Bool) (len : Option ℕ) (n : ℕ)
    → kind_payload k more len (kind_payload k more len n) ≡ kind_payload k more len n
again kind.Sdu more None n = refl
again kind.Sdu more (Some l) n = refl
again (kind.Control e) more len n = refl
again kind.Padding true len n = refl
again kind.Padding false len n = refl
again kind.Reserved more len n = refl

-- the payload of a payload is the whole
pub payload_again : (s : Subheader) (n : ℕ) → payload_len s (payload_len s n) ≡ payload_len s n
unfolding payload_len
payload_again s n = again s.kind s.more s.length n

heads_nil : (d : Direction) → subheaders d 0 [] ≡ []
unfolding subheaders
heads_nil d = refl

heads_behind : (d : Direction) (headers : List ℕ) (s : Subheader) → subheader_at d headers ≡ Some s
    → subheaders d 0 headers ≡ s ∷ subheaders d 0 (behind s headers)
heads_behind d headers s e = heads_next d headers s e
    ∙ elim s.more as (λ b. s ∷ cond b (subheaders d 0 (drop s.size headers)) []
    ≡ s ∷ subheaders d 0 (cond b (drop s.size headers) []))
    [ true ↦ refl | false ↦ ap (λ (ss : List Subheader). s ∷ ss) (sym (heads_nil d)) ]

pub record IsStep (d : Direction) (headers body : List ℕ) (s : Subheader) : Type 0 where
  pub within : payload_len s (length body) ≤ length body
  pub rest : overrun 0 (subheaders d 0 (behind s headers)) (drop (payload_len s (length body)) body) ≡ None
  pub found : items (subheaders d 0 headers) body ≡ item_of s (take (payload_len s (length body)) body)
      ∷ items (subheaders d 0 (behind s headers)) (drop (payload_len s (length body)) body)

pub step : (d : Direction) (headers body : List ℕ) (s : Subheader) → subheader_at d headers ≡ Some s
    → overrun 0 (subheaders d 0 headers) body ≡ None → IsStep d headers body s
unfolding overrun items
step d headers body s e none =
    let h = heads_behind d headers s e in
    let n = payload_len s (length body) in
    let here : overrun 0 (s ∷ subheaders d 0 (behind s headers)) body ≡ None =
    ap (λ (ss : List Subheader). overrun 0 ss body) (sym h) ∙ none in
    elim (cases_lt (length body) n) [
      | inl lt ↦ let bad : overrun 0 (s ∷ subheaders d 0 (behind s headers)) body ≡ Some 0 =
          rw (lt-ltb (length body) n lt) refl in
          absurd (some-not-none 0 (sym bad ∙ here))
      | inr le ↦ let go : overrun 0 (s ∷ subheaders d 0 (behind s headers)) body
          ≡ overrun (0 + s.size) (subheaders d 0 (behind s headers)) (drop n body) =
          rw (le-ltb (length body) n le) refl in
          record {
            within = le;
            rest = overrun_none (0 + s.size) 0 (subheaders d 0 (behind s headers)) (drop n body) (sym go ∙ here);
            found = ap (λ (ss : List Subheader). items ss body) h;
          }
    ]

-- the step as the code's values have it
pub step_is : (d : Direction) (headers body : List ℕ) (s : Subheader) (n : ℕ) (payload rest others : List ℕ)
    (p : MacItem) → IsStep d headers body s
    → n ≡ payload_len s (length body) → payload ≡ take n body → rest ≡ drop n body → others ≡ behind s headers
    → p ≡ item_of s payload
    → items (subheaders d 0 headers) body ≡ p ∷ items (subheaders d 0 others) rest
step_is d headers body s n payload rest others p st en ep er eo e = rw (e, ep, er, eo, en) st.found

pub nothing : (d : Direction) (headers body : List ℕ) → subheader_at d headers ≡ None
    → items (subheaders d 0 headers) body ≡ []
unfolding items
nothing d headers body e = rw (heads_end d headers e) refl

-- What a block is read as.

module _ (d : Direction) (octets : List ℕ) where
  pub reading_fault : (e : MacRefusal) → first_fault stage.Start 0 (length octets) (subheaders d 0 octets) ≡ Some e
      → reading d octets ≡ Err e
  unfolding reading refusal_of
  reading_fault e f = rw f refl

  pub reading_past : (at n : ℕ) → first_fault stage.Start 0 (length octets) (subheaders d 0 octets) ≡ None
      → n ≡ header_size (subheaders d 0 octets)
      → overrun 0 (subheaders d 0 octets) (drop n octets) ≡ Some at
      → reading d octets ≡ Err (record { at = at; why = why.LengthPast })
  unfolding reading refusal_of
  reading_past at n f size past = rw (f, ← size, past) refl

  pub reading_ok : (n : ℕ) → first_fault stage.Start 0 (length octets) (subheaders d 0 octets) ≡ None
      → n ≡ header_size (subheaders d 0 octets)
      → overrun 0 (subheaders d 0 octets) (drop n octets) ≡ None
      → reading d octets ≡ Ok (items (subheaders d 0 octets) (drop n octets))
  unfolding reading refusal_of
  reading_ok n f size fits = rw (f, ← size, fits) refl
