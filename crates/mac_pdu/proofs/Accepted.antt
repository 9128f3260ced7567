-- What is in the grammar is read.
use Rattle.std.proofs.Common.{◌≡◌, ℕ, ◌+◌, ◌*◌, ◌/◌, ◌%◌, ◌<◌, Bool, true, false, ltb, List, [], ◌∷◌, ◌++◌, length}
use Rattle.std.proofs.Common.{drop, take, refl, sym, ap, ◌∙◌, arith, subst, None, Some, Ok}
use Rattle.std.specs.Prelude.{All}
use Rattle.std.proofs.lemmas.Bool.{le-ltb}
use Rattle.std.proofs.lemmas.List.{length-append, take_at, drop_at, append-nil}
use Rattle.mac_pdu.specs.declared.item.Direction.{Direction}
use Rattle.mac_pdu.specs.declared.item.Direction.TheVariants.{Down, Up}
use Rattle.mac_pdu.specs.declared.item.Bsr.TheVariants as bsr
use Rattle.mac_pdu.specs.declared.item.Control.{Control}
use Rattle.mac_pdu.specs.declared.item.Control.TheVariants as control
use Rattle.mac_pdu.specs.declared.subheader.Element.TheVariants as elements
use Rattle.mac_pdu.specs.declared.subheader.Kind.TheVariants as kind
use Rattle.mac_pdu.specs.declared.subheader.Stage.{Stage}
use Rattle.mac_pdu.specs.declared.subheader.Stage.TheVariants as stage
use Rattle.mac_pdu.specs.declared.subheader.Subheader.{Subheader}
use Rattle.mac_pdu.specs.Items.{MacItem, front, element, sdu, padding, control_lcid, control_octets, IsControl}
use Rattle.mac_pdu.specs.Grammar.{IsInner, IsLast, IsHeader, IsElement, IsPayload, IsEnd, IsBody, MacPdu}
use Rattle.mac_pdu.specs.Subheaders.{payload_len, control_of, element_size, fault_of, after}
use Rattle.mac_pdu.specs.Refusals.{subheaders, first_fault, overrun}
use Rattle.mac_pdu.specs.Reading.{items, item_of, reading}
use Rattle.mac_pdu.proofs.ItemKinds.{item_kind, element_of, NoFault, control_is, sdu_is, padding_is, lcid_lt}
use Rattle.mac_pdu.proofs.Order.{ordered_allowed}
use Rattle.mac_pdu.proofs.HeaderOctets.{IsSubheader, AreSubheaders, header_read}
use Rattle.mac_pdu.proofs.Steps.{reading_ok}

-- the subheader of an item, of so many octets
pub head : Bool → MacItem → ℕ → Subheader
head true (sdu lcid octets) size =
    record { lcid = lcid; kind = kind.Sdu; more = true; length = Some (length octets); size = size }
head false (sdu lcid octets) size = record { lcid = lcid; kind = kind.Sdu; more = false; length = None; size = size }
head more (element c) size = record {
  lcid = control_lcid c;
  kind = kind.Control (element_of c);
  more = more;
  length = None;
  size = size;
}
head more front size = record { lcid = 31; kind = kind.Padding; more = more; length = None; size = size }
head more (padding n) size = record { lcid = 31; kind = kind.Padding; more = more; length = None; size = size }

head_more : (more : Bool) (p : MacItem) (size : ℕ) → ((head more p size).more ≡ more)
    × ((head more p size).kind ≡ item_kind p) × ((head more p size).size ≡ size)
unfolding head
head_more true front size = (refl, refl, refl)
head_more false front size = (refl, refl, refl)
head_more true (element c) size = (refl, refl, refl)
head_more false (element c) size = (refl, refl, refl)
head_more true (sdu lcid octets) size = (refl, refl, refl)
head_more false (sdu lcid octets) size = (refl, refl, refl)
head_more true (padding n) size = (refl, refl, refl)
head_more false (padding n) size = (refl, refl, refl)

inner_is : (d : Direction) (p : MacItem) (octets : List ℕ) → IsInner d p octets
    → IsSubheader d (head true p (length octets)) octets
unfolding head
inner_is d front octets h = record {
  free = h.free;
  tail = [];
  two_bits = h.two_bits;
  five_bits = omega arith;
  kind_is = sym (padding_is d);
  spelled = h.octets_are;
  tail_is = refl;
  size_is = refl;
}
inner_is d (element c) octets h =
    record {
      free = h.1.free;
      tail = [];
      two_bits = h.1.two_bits;
      five_bits = lcid_lt c;
      kind_is = sym (control_is d c h.0);
      spelled = h.1.octets_are;
      tail_is = refl;
      size_is = refl;
    }
inner_is d (sdu lcid payload) octets h =
    record {
      free = h.3.free;
      tail = h.0;
      two_bits = h.3.two_bits;
      five_bits = omega (arith, h.1);
      kind_is = sym (sdu_is d lcid h.1);
      spelled = h.3.octets_are;
      tail_is = h.2;
      size_is = refl;
    }
inner_is d (padding n) octets h = absurd h

last_is : (d : Direction) (p : MacItem) (octets : List ℕ) → IsLast d p octets
    → IsSubheader d (head false p (length octets)) octets
unfolding head
last_is d front octets h = absurd h
last_is d (element c) octets h =
    record {
      free = h.1.free;
      tail = [];
      two_bits = h.1.two_bits;
      five_bits = lcid_lt c;
      kind_is = sym (control_is d c h.0);
      spelled = h.1.octets_are;
      tail_is = refl;
      size_is = refl;
    }
last_is d (sdu lcid payload) octets h =
    record {
      free = h.1.free;
      tail = [];
      two_bits = h.1.two_bits;
      five_bits = omega (arith, h.0);
      kind_is = sym (sdu_is d lcid h.0);
      spelled = h.1.octets_are;
      tail_is = refl;
      size_is = refl;
    }
last_is d (padding n) octets h =
    record {
      free = h.free;
      tail = [];
      two_bits = h.two_bits;
      five_bits = omega arith;
      kind_is = sym (padding_is d);
      spelled = h.octets_are;
      tail_is = refl;
      size_is = refl;
    }

-- Control elements.

long_again : (levels : List ℕ) → length levels ≡ 4 → All (λ level. level < 64) levels
    → control_of elements.Long (control_octets (control.Report (bsr.Long levels))) ≡ control.Report (bsr.Long levels)
unfolding control_of
long_again [] h all = absurd (omega arith)
long_again (a ∷ []) h all = absurd (omega arith)
long_again (a ∷ b ∷ []) h all = absurd (omega arith)
long_again (a ∷ b ∷ c ∷ []) h all = absurd (omega arith)
long_again (a ∷ b ∷ c ∷ d ∷ []) h all =
    let a-fits : a < 64 = all 0 0 (omega arith) in
    let b-fits : b < 64 = all 1 0 (omega arith) in
    let c-fits : c < 64 = all 2 0 (omega arith) in
    let d-fits : d < 64 = all 3 0 (omega arith) in
    let x = a * 4 + b / 16 in
    let y = b % 16 * 16 + c / 4 in
    let z = c % 4 * 64 + d in
    let e0 : x / 4 ≡ a = omega arith in
    let e1 : x % 4 * 16 + y / 16 ≡ b = omega arith in
    let e2 : y % 16 * 4 + z / 64 ≡ c = omega arith in
    let e3 : z % 64 ≡ d = omega arith in
    rw (e0, e1, e2, e3) refl
long_again (a ∷ b ∷ c ∷ d ∷ e ∷ levels) h all = absurd (omega arith)

-- what the octets of a control element say
pub IsRead : Control → List ℕ → Type 0
IsRead c octets = (element_size (element_of c) ≡ length octets) × (control_of (element_of c) octets ≡ c)

six_bits : (free value : ℕ) → value < 64 → (64 * free + value) % 64 ≡ value
six_bits free value h = omega arith

element_read : (d : Direction) (c : Control) (octets : List ℕ) → IsControl d c → IsElement c octets → IsRead c octets
unfolding IsRead control_of
element_read Down (control.Contention id) octets h e = rw e (sym h, refl)
element_read Down (control.Advance value) octets h e = rw (e.2, six_bits e.0 value h) (refl, refl)
element_read Down control.Drx octets h e = rw e (refl, refl)
element_read Down (control.Phr level) octets h e = absurd h
element_read Down (control.Crnti value) octets h e = absurd h
element_read Down (control.Report report) octets h e = absurd h
element_read Up (control.Contention id) octets h e = absurd h
element_read Up (control.Advance value) octets h e = absurd h
element_read Up control.Drx octets h e = absurd h
element_read Up (control.Phr level) octets h e = rw (e.2, six_bits e.0 level h) (refl, refl)
element_read Up (control.Crnti value) octets h e = let v : value / 256 * 256 + value % 256 ≡ value = omega arith in
    rw (e, v) (refl, refl)
element_read Up (control.Report (bsr.Truncated group level)) octets h e =
    let g : (group * 64 + level) / 64 ≡ group = omega arith in
    let l : (group * 64 + level) % 64 ≡ level = omega arith in
    rw (e, g, l) (refl, refl)
element_read Up (control.Report (bsr.Short group level)) octets h e =
    let g : (group * 64 + level) / 64 ≡ group = omega arith in
    let l : (group * 64 + level) % 64 ≡ level = omega arith in
    rw (e, g, l) (refl, refl)
element_read Up (control.Report (bsr.Long levels)) octets h e = rw e (refl, long_again levels h.0 h.1)

-- Payloads.

-- what a subheader says of the payload in front of n octets
IsOf : Subheader → MacItem → List ℕ → ℕ → Type 0
IsOf s p octets n = (payload_len s n ≡ length octets) × (item_of s octets ≡ p)

of_inner : (d : Direction) (p : MacItem) (header payload : List ℕ) (size n : ℕ) → IsInner d p header
    → IsPayload p payload → IsOf (head true p size) p payload n
unfolding head IsOf IsRead payload_len item_of
of_inner d front header payload size n h e = rw e (refl, refl)
of_inner d (element c) header payload size n h e = let r = element_read d c payload h.0 e in
    (r.0, ap (λ (x : Control). element x) r.1)
of_inner d (sdu lcid octets) header payload size n h e = rw e (refl, refl)
of_inner d (padding m) header payload size n h e = absurd h

-- the payload of the last item, and what stands behind it
LastPayload : MacItem → List ℕ → ℕ → Type 0
LastPayload p body size = (payload : List ℕ) × (rest : List ℕ) × (body ≡ payload ++ rest)
    × IsOf (head false p size) p payload (length body)

of_last : (d : Direction) (p : MacItem) (header body : List ℕ) (size : ℕ) → IsLast d p header → IsEnd p body
    → LastPayload p body size
unfolding head IsOf IsRead LastPayload payload_len item_of
of_last d front header body size h e = absurd h
of_last d (element c) header body size h e = let r = element_read d c e.0 h.0 e.3 in
    (e.0, e.1, e.2, (r.0, ap (λ (x : Control). element x) r.1))
of_last d (sdu lcid octets) header body size h e = (octets, [], simp (append-nil, e), (ap length e, refl))
of_last d (padding n) header body size h e = (body, [], simp append-nil, (refl, ap (λ (m : ℕ). padding m) e))

-- a payload in front
fits_one : (s : Subheader) (p : MacItem) (ss : List Subheader) (at : ℕ) (payload rest : List ℕ)
    → IsOf s p payload (length (payload ++ rest))
    → (overrun at (s ∷ ss) (payload ++ rest) ≡ overrun (at + s.size) ss rest)
    × (items (s ∷ ss) (payload ++ rest) ≡ p ∷ items ss rest)
unfolding IsOf overrun items
fits_one s p ss at payload rest h =
    let long : ltb (length (payload ++ rest)) (length payload) ≡ false =
    le-ltb _ _ (omega (arith, length-append payload rest)) in
    let behind : drop (length payload) (payload ++ rest) ≡ rest = drop_at payload rest (length payload) refl in
    let first : take (length payload) (payload ++ rest) ≡ payload = take_at payload rest (length payload) refl in
    (rw (h.0, long, behind) refl, rw (h.0, first, behind, h.1) refl)

-- the subheaders of items
IsFound : Direction → Stage → List MacItem → List ℕ → List ℕ → Type 0
IsFound d st ps header body = (ss : List Subheader) × AreSubheaders d ss header
    × ((at total : ℕ) → first_fault st at total ss ≡ None)
    × ((at : ℕ) → overrun at ss body ≡ None) × (items ss body ≡ ps)

header_cons : (d : Direction) (s : Subheader) (ss : List Subheader) (first rest : List ℕ) → IsSubheader d s first
    → s.more ≡ true → AreSubheaders d ss rest → AreSubheaders d (s ∷ ss) (first ++ rest)
header_cons d s [] first rest h more hs = absurd hs
header_cons d s (t ∷ ss) first rest h more hs = (first, rest, refl, h, more, hs)

found_last : (d : Direction) (st : Stage) (p : MacItem) (header body : List ℕ) → IsLast d p header → IsEnd p body
    → NoFault st (p ∷ []) → IsFound d st (p ∷ []) header body
unfolding IsFound LastPayload first_fault overrun items
found_last d st p header body h e none =
    let s = head false p (length header) in
    let m = head_more false p (length header) in
    let l = of_last d p header body (length header) h e in
    let of : IsOf s p l.0 (length (l.0 ++ l.1)) = subst (λ (b : List ℕ). IsOf s p l.0 (length b)) l.2 l.3 in (
      s ∷ [],
      (last_is d p header h, m.0),
      λ at total. rw (m.1, m.0, none) refl,
      λ at. subst (λ (b : List ℕ). overrun at (s ∷ []) b ≡ None) (sym l.2) ((fits_one s p [] at l.0 l.1 of).0),
      subst (λ (b : List ℕ). items (s ∷ []) b ≡ p ∷ []) (sym l.2) ((fits_one s p [] 0 l.0 l.1 of).1),
    )

found_more : (d : Direction) (st : Stage) (p : MacItem) (ps : List MacItem) (first rest payload others : List ℕ)
    → IsInner d p first → IsPayload p payload → fault_of st (item_kind p) true ≡ None
    → IsFound d (after st (item_kind p)) ps rest others → IsFound d st (p ∷ ps) (first ++ rest) (payload ++ others)
unfolding IsFound first_fault
found_more d st p ps first rest payload others h e none f =
    let s = head true p (length first) in
    let m = head_more true p (length first) in
    let of = of_inner d p first payload (length first) (length (payload ++ others)) h e in (
      s ∷ f.0,
      header_cons d s f.0 first rest (inner_is d p first h) m.0 f.1,
      λ at total. rw (m.1, m.0, none) (f.2 (at + s.size) total),
      λ at. (fits_one s p f.0 at payload others of).0 ∙ f.3 (at + s.size),
      (fits_one s p f.0 0 payload others of).1 ∙ ap (λ (xs : List MacItem). p ∷ xs) f.4,
    )

found : (d : Direction) (st : Stage) (ps : List MacItem) (header body : List ℕ) → IsHeader d ps header
    → IsBody ps body → NoFault st ps → IsFound d st ps header body
found d st [] header body h e none = absurd h
found d st (p ∷ []) header body h e none = found_last d st p header body h e none
found d st (p ∷ q ∷ ps) header body h e none =
    let f = found d (after st (item_kind p)) (q ∷ ps) h.1 e.1 h.4 e.4 none.1 in
    let all = found_more d st p (q ∷ ps) h.0 h.1 e.0 e.1 h.3 e.3 none.0 f in
    subst (λ (b : List ℕ). IsFound d st (p ∷ q ∷ ps) header b) (sym e.2)
    (subst (λ (b : List ℕ). IsFound d st (p ∷ q ∷ ps) b (e.0 ++ e.1)) (sym h.2) all)

-- what is in the grammar is read
pub accepted : (d : Direction) (ps : List MacItem) (octets : List ℕ) → MacPdu d ps octets → reading d octets ≡ Ok ps
unfolding IsFound
accepted d ps octets h =
    let f = found d stage.Start ps h.header h.body h.subheaders h.payloads (ordered_allowed ps h.ordered) in
    let r = header_read d f.0 h.header h.body f.1 in
    let hs : subheaders d 0 octets ≡ f.0 = rw h.block r.0 in
    let n : ℕ = length h.header in
    let behind : drop n octets ≡ h.body = rw h.block (drop_at h.header h.body n refl) in
    reading_ok d octets n (rw hs (f.2 0 (length octets))) (rw hs (sym r.1)) (rw (hs, behind) (f.3 0))
    ∙ ap (λ (xs : List MacItem). Ok xs) (rw (hs, behind) f.4)
