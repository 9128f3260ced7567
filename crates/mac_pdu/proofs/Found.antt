-- What is read is in the grammar.
use Rattle.std.proofs.Common.{◌≡◌, ℕ, ◌+◌, ◌*◌, ◌/◌, ◌%◌, ◌<◌, ◌≤◌, ◌&&◌, Bool, true, false, leb, eqb, List, [], ◌∷◌}
use Rattle.std.proofs.Common.{◌++◌, length, drop, take, refl, sym, ap, ◌∙◌, arith, subst, inl, inr, Option, None, Some}
use Rattle.std.proofs.Common.{Result, Ok, Err, IfOk, IfErr}
use Rattle.std.specs.Prelude.{All}
use Rattle.std.proofs.lemmas.List.Elements.{All-cons, All-nil}
use Rattle.std.proofs.lemmas.Bool.{cond_both, cases_lt, le-ltb, lt-ltb, leb-true, eqb-true}
use Rattle.std.proofs.lemmas.List.{length-append, length-take, take-append-drop, drop_at, get_or_append_left}
use Rattle.std.proofs.lemmas.List.{get_or_past, nil_from_length, append-nil}
use Rattle.mac_pdu.specs.declared.item.Direction.{Direction}
use Rattle.mac_pdu.specs.declared.item.Direction.TheVariants.{Down, Up}
use Rattle.mac_pdu.specs.declared.fault.MacWhy.{MacWhy}
use Rattle.mac_pdu.specs.declared.fault.MacRefusal.{MacRefusal}
use Rattle.mac_pdu.specs.declared.subheader.Element.{Element}
use Rattle.mac_pdu.specs.declared.subheader.Element.TheVariants as elements
use Rattle.mac_pdu.specs.declared.subheader.Kind.{Kind}
use Rattle.mac_pdu.specs.declared.subheader.Kind.TheVariants as kind
use Rattle.mac_pdu.specs.declared.subheader.Stage.{Stage}
use Rattle.mac_pdu.specs.declared.subheader.Stage.TheVariants as stage
use Rattle.mac_pdu.specs.declared.subheader.Subheader.{Subheader}
use Rattle.mac_pdu.specs.Items.{MacItem, control_lcid, IsControl}
use Rattle.mac_pdu.specs.Grammar.{BeginsWith, IsInner, IsLast, IsHeader, IsElement, IsPayload, IsEnd, IsBody, MacPdu}
use Rattle.mac_pdu.specs.Subheaders.{kind_of, is_sdu, control_of, element_size, kind_payload, payload_len, fault_of}
use Rattle.mac_pdu.specs.Subheaders.{after}
use Rattle.mac_pdu.specs.Refusals.{subheaders, first_fault, or_fault, overrun, header_size, past, first_of, refusal_of}
use Rattle.mac_pdu.specs.Reading.{items, item_of, kind_item, or_refused, reading}
use Rattle.mac_pdu.proofs.ItemKinds.{item_kind, element_of, NoFault, IsPlaced}
use Rattle.mac_pdu.proofs.Order.{allowed_ordered}
use Rattle.mac_pdu.proofs.HeaderOctets.{IsTail, IsSubheader, AreSubheaders, AreOctets, Octets-rest, Split, Later}
use Rattle.mac_pdu.proofs.HeaderOctets.{header_written, header_read, later_fault}

-- Octets.

Octets-front : (first rest : List ℕ) → AreOctets (first ++ rest) → AreOctets first
Octets-front first rest h i = elim (cases_lt i (length first)) [
  | inl lt ↦ subst (λ (n : ℕ). n < 256) (get_or_append_left first rest 0 i lt) (h i)
  | inr le ↦ rw (get_or_past first i 0 le) (omega arith)
]

Octets-take : (n : ℕ) (body : List ℕ) → AreOctets body → AreOctets (take n body)
Octets-take n body h = Octets-front (take n body) (drop n body) (subst AreOctets (sym (take-append-drop n body)) h)

Octets-drop : (n : ℕ) (body : List ℕ) → AreOctets body → AreOctets (drop n body)
Octets-drop n body h = Octets-rest (take n body) (drop n body) (subst AreOctets (sym (take-append-drop n body)) h)

some_none : {A : Type 0} (x : A) → Some x ≡ None → ⊥
some_none x e = cc

-- What the LCIDs stand for.

-- the LCID of a control element
IsElementOf : Direction → Element → ℕ → Type 0
IsElementOf Down elements.Contention lcid = lcid ≡ 28
IsElementOf Down elements.Advance lcid = lcid ≡ 29
IsElementOf Down elements.Drx lcid = lcid ≡ 30
IsElementOf Up elements.Phr lcid = lcid ≡ 26
IsElementOf Up elements.Crnti lcid = lcid ≡ 27
IsElementOf Up elements.Truncated lcid = lcid ≡ 28
IsElementOf Up elements.Short lcid = lcid ≡ 29
IsElementOf Up elements.Long lcid = lcid ≡ 30
IsElementOf _ _ lcid = ⊥

IsKindOf : Direction → ℕ → Kind → Type 0
IsKindOf d lcid kind.Sdu = lcid ≤ 10
IsKindOf d lcid (kind.Control e) = IsElementOf d e lcid
IsKindOf d lcid kind.Padding = lcid ≡ 31
IsKindOf d lcid kind.Reserved = Unit {0}

kind_found : (d : Direction) (lcid : ℕ) → IsKindOf d lcid (kind_of d lcid)
unfolding kind_of IsKindOf IsElementOf
kind_found Down lcid =
    let P : Kind → Type 0 = IsKindOf Down lcid in
    cond_both (leb lcid 10) kind.Sdu _ P (λ e. leb-true lcid 10 e)
    (λ _. cond_both (eqb lcid 31) kind.Padding _ P (λ e. eqb-true lcid 31 e)
    (λ _. cond_both (eqb lcid 28) (kind.Control elements.Contention) _ P (λ e. eqb-true lcid 28 e)
    (λ _. cond_both (eqb lcid 29) (kind.Control elements.Advance) _ P (λ e. eqb-true lcid 29 e)
    (λ _. cond_both (eqb lcid 30) (kind.Control elements.Drx) kind.Reserved P (λ e. eqb-true lcid 30 e) (λ _. tt)))))
kind_found Up lcid =
    let P : Kind → Type 0 = IsKindOf Up lcid in
    cond_both (leb lcid 10) kind.Sdu _ P (λ e. leb-true lcid 10 e)
    (λ _. cond_both (eqb lcid 31) kind.Padding _ P (λ e. eqb-true lcid 31 e)
    (λ _. cond_both (eqb lcid 26) (kind.Control elements.Phr) _ P (λ e. eqb-true lcid 26 e)
    (λ _. cond_both (eqb lcid 27) (kind.Control elements.Crnti) _ P (λ e. eqb-true lcid 27 e)
    (λ _. cond_both (eqb lcid 28) (kind.Control elements.Truncated) _ P (λ e. eqb-true lcid 28 e)
    (λ _. cond_both (eqb lcid 29) (kind.Control elements.Short) _ P (λ e. eqb-true lcid 29 e)
    (λ _. cond_both (eqb lcid 30) (kind.Control elements.Long) kind.Reserved P (λ e. eqb-true lcid 30 e) (λ _. tt)))))))

kind_at : (d : Direction) (lcid : ℕ) (k : Kind) → k ≡ kind_of d lcid → IsKindOf d lcid k
kind_at d lcid k e = subst (IsKindOf d lcid) (sym e) (kind_found d lcid)

-- Control elements.

three : {x y z x' y' z' : ℕ} → x ≡ x' → y ≡ y' → z ≡ z' → x ∷ y ∷ z ∷ [] ≡ x' ∷ y' ∷ z' ∷ []
three ex ey ez = rw (ex, ey, ez) refl

-- the element that octets write
IsFoundElement : Direction → Element → ℕ → List ℕ → Type 0
IsFoundElement d e lcid octets = IsControl d (control_of e octets) × (control_lcid (control_of e octets) ≡ lcid)
    × IsElement (control_of e octets) octets × (element_of (control_of e octets) ≡ e)

six_back : (o : ℕ) → o < 256 → (o / 64 < 4) × (o ≡ 64 * (o / 64) + o % 64)
six_back o h = (omega arith, omega arith)

long_found : (a b c : ℕ) → a < 256 → b < 256 → c < 256 →
    (a ≡ a / 4 * 4 + (a % 4 * 16 + b / 16) / 16) × (b ≡ (a % 4 * 16 + b / 16) % 16 * 16 + (b % 16 * 4 + c / 64) / 4)
    × (c ≡ (b % 16 * 4 + c / 64) % 4 * 64 + c % 64)
long_found a b c ha hb hc = (omega arith, omega arith, omega arith)

four_fit : (w x y z : ℕ) → w < 64 → x < 64 → y < 64 → z < 64 → All (λ level. level < 64) (w ∷ x ∷ y ∷ z ∷ [])
four_fit w x y z hw hx hy hz =
    let P : ℕ → Type 0 = λ level. level < 64 in
    All-cons P w (x ∷ y ∷ z ∷ []) hw
    (All-cons P x (y ∷ z ∷ []) hx (All-cons P y (z ∷ []) hy (All-cons P z [] hz (All-nil P))))

levels_fit : (a b c : ℕ) → a < 256 → b < 256 → c < 256
    → All (λ level. level < 64) ((a / 4) ∷ (a % 4 * 16 + b / 16) ∷ (b % 16 * 4 + c / 64) ∷ (c % 64) ∷ [])
levels_fit a b c ha hb hc =
    let x : a / 4 < 64 = omega arith in
    let y : a % 4 * 16 + b / 16 < 64 = omega arith in
    let z : b % 16 * 4 + c / 64 < 64 = omega arith in
    let w : c % 64 < 64 = omega arith in
    four_fit (a / 4) (a % 4 * 16 + b / 16) (b % 16 * 4 + c / 64) (c % 64) x y z w

element_found : (d : Direction) (e : Element) (lcid : ℕ) (octets : List ℕ) → IsElementOf d e lcid
    → length octets ≡ element_size e → AreOctets octets → IsFoundElement d e lcid octets
unfolding IsElementOf IsFoundElement control_of
element_found Down elements.Contention lcid octets h size fits = (size, sym h, refl, refl)
element_found Down elements.Advance lcid [] h size fits = absurd (omega arith)
element_found Down elements.Advance lcid (a ∷ b ∷ os) h size fits = absurd (omega arith)
element_found Down elements.Advance lcid (o ∷ []) h size fits = let b = six_back o (fits 0) in
    (omega arith, sym h, (o / 64, b.0, ap (λ (x : ℕ). x ∷ []) b.1), refl)
element_found Down elements.Drx lcid (a ∷ os) h size fits = absurd (omega arith)
element_found Down elements.Drx lcid [] h size fits = (tt, sym h, refl, refl)
element_found Up elements.Phr lcid [] h size fits = absurd (omega arith)
element_found Up elements.Phr lcid (a ∷ b ∷ os) h size fits = absurd (omega arith)
element_found Up elements.Phr lcid (o ∷ []) h size fits = let b = six_back o (fits 0) in
    (omega arith, sym h, (o / 64, b.0, ap (λ (x : ℕ). x ∷ []) b.1), refl)
element_found Up elements.Crnti lcid [] h size fits = absurd (omega arith)
element_found Up elements.Crnti lcid (a ∷ []) h size fits = absurd (omega arith)
element_found Up elements.Crnti lcid (a ∷ b ∷ c ∷ os) h size fits = absurd (omega arith)
element_found Up elements.Crnti lcid (a ∷ b ∷ []) h size fits =
    let low : b < 256 = fits 1 in
    let x : a ≡ (a * 256 + b) / 256 = omega arith in
    let y : b ≡ (a * 256 + b) % 256 = omega arith in
    (tt, sym h, ap (λ (n : ℕ). n ∷ b ∷ []) x ∙ ap (λ (n : ℕ). ((a * 256 + b) / 256) ∷ n ∷ []) y, refl)
element_found Up elements.Truncated lcid [] h size fits = absurd (omega arith)
element_found Up elements.Truncated lcid (a ∷ b ∷ os) h size fits = absurd (omega arith)
element_found Up elements.Truncated lcid (o ∷ []) h size fits =
    let small : o < 256 = fits 0 in
    let x : o ≡ o / 64 * 64 + o % 64 = omega arith in
    ((omega arith, omega arith), sym h, ap (λ (n : ℕ). n ∷ []) x, refl)
element_found Up elements.Short lcid [] h size fits = absurd (omega arith)
element_found Up elements.Short lcid (a ∷ b ∷ os) h size fits = absurd (omega arith)
element_found Up elements.Short lcid (o ∷ []) h size fits =
    let small : o < 256 = fits 0 in
    let x : o ≡ o / 64 * 64 + o % 64 = omega arith in
    ((omega arith, omega arith), sym h, ap (λ (n : ℕ). n ∷ []) x, refl)
element_found Up elements.Long lcid [] h size fits = absurd (omega arith)
element_found Up elements.Long lcid (a ∷ []) h size fits = absurd (omega arith)
element_found Up elements.Long lcid (a ∷ b ∷ []) h size fits = absurd (omega arith)
element_found Up elements.Long lcid (a ∷ b ∷ c ∷ e ∷ os) h size fits = absurd (omega arith)
element_found Up elements.Long lcid (a ∷ b ∷ c ∷ []) h size fits =
    let l = long_found a b c (fits 0) (fits 1) (fits 2) in
    ((refl, levels_fit a b c (fits 0) (fits 1) (fits 2)), sym h, three l.0 l.1 l.2, refl)
element_found Up elements.Contention lcid octets h size fits = absurd h
element_found Up elements.Advance lcid octets h size fits = absurd h
element_found Up elements.Drx lcid octets h size fits = absurd h
element_found Down elements.Phr lcid octets h size fits = absurd h
element_found Down elements.Crnti lcid octets h size fits = absurd h
element_found Down elements.Truncated lcid octets h size fits = absurd h
element_found Down elements.Short lcid octets h size fits = absurd h
element_found Down elements.Long lcid octets h size fits = absurd h

-- Items.

no_tail : (len : Option ℕ) (tail : List ℕ) → IsTail false len tail → tail ≡ []
no_tail None tail h = h
no_tail (Some n) tail h = absurd h

-- the octets of a subheader, where its E bit is known
begins : (d : Direction) (s : Subheader) (octets : List ℕ) (more : Bool) → s.more ≡ more
    → (h : IsSubheader d s octets) → BeginsWith more s.lcid h.tail octets
begins d s octets more e h =
    subst (λ (b : Bool). BeginsWith b s.lcid h.tail octets) e
    (record { free = h.free; two_bits = h.two_bits; octets_are = h.spelled })

begins_alone : (d : Direction) (s : Subheader) (octets : List ℕ) (more : Bool) → s.more ≡ more
    → (h : IsSubheader d s octets) → (is_sdu s.kind && s.more) ≡ false → BeginsWith more s.lcid [] octets
begins_alone d s octets more e h none =
    let nothing : h.tail ≡ [] =
    no_tail s.length h.tail (subst (λ (b : Bool). IsTail b s.length h.tail) none h.tail_is) in
    subst (λ (t : List ℕ). BeginsWith more s.lcid t octets) nothing (begins d s octets more e h)

IsInnerFound : Direction → MacItem → Kind → List ℕ → List ℕ → Type 0
IsInnerFound d p k header payload = IsInner d p header × IsPayload p payload × (item_kind p ≡ k)

inner_found : (d : Direction) (st : Stage) (s : Subheader) (header payload : List ℕ) (n : ℕ)
    → (h : IsSubheader d s header) → s.more ≡ true → AreOctets payload
    → (k : Kind) → s.kind ≡ k → (len : Option ℕ) → s.length ≡ len → fault_of st k true ≡ None
    → length payload ≡ kind_payload k true len n → IsInnerFound d (kind_item k true s.lcid payload) k header payload
unfolding IsInnerFound IsKindOf IsFoundElement fault_of
inner_found d st s header payload n h more fits kind.Sdu ek (Some len) el none size =
    let low : s.lcid ≤ 10 = kind_at d s.lcid kind.Sdu (sym ek ∙ h.kind_is) in
    let both : (is_sdu s.kind && s.more) ≡ true = rw (ek, more) refl in
    let tail : IsTail true s.length h.tail = subst (λ (b : Bool). IsTail b s.length h.tail) both h.tail_is in
    let tail' : IsTail true (Some len) h.tail = subst (λ (o : Option ℕ). IsTail true o h.tail) el tail in
    ((h.tail, low, rw size tail', begins d s header true more h), refl, refl)
inner_found d st s header payload n h more fits kind.Sdu ek None el none size =
    let both : (is_sdu s.kind && s.more) ≡ true = rw (ek, more) refl in
    let tail : IsTail true s.length h.tail = subst (λ (b : Bool). IsTail b s.length h.tail) both h.tail_is in
    let tail' : IsTail true None h.tail = subst (λ (o : Option ℕ). IsTail true o h.tail) el tail in
    absurd tail'
inner_found d st s header payload n h more fits (kind.Control e) ek len el none size =
    let f = element_found d e s.lcid payload (kind_at d s.lcid (kind.Control e) (sym ek ∙ h.kind_is)) size fits in
    let alone = begins_alone d s header true more h (rw ek refl) in (
      (f.0, subst (λ (l : ℕ). BeginsWith true l [] header) (sym f.1) alone),
      f.2,
      ap (λ (x : Element). kind.Control x) f.3,
    )
inner_found d st s header payload n h more fits kind.Padding ek len el none size =
    let is : s.lcid ≡ 31 = kind_at d s.lcid kind.Padding (sym ek ∙ h.kind_is) in (
      subst (λ (l : ℕ). BeginsWith true l [] header) is (begins_alone d s header true more h (rw ek refl)),
      nil_from_length payload size,
      refl,
    )
inner_found d st s header payload n h more fits kind.Reserved ek len el none size = absurd cc

IsLastFound : Direction → MacItem → Kind → List ℕ → List ℕ → Type 0
IsLastFound d p k header body = IsLast d p header × IsEnd p body × (item_kind p ≡ k)

last_found : (d : Direction) (st : Stage) (s : Subheader) (header body payload rest : List ℕ)
    → (h : IsSubheader d s header) → s.more ≡ false → AreOctets payload → body ≡ payload ++ rest
    → (k : Kind) → s.kind ≡ k → (len : Option ℕ) → s.length ≡ len → fault_of st k false ≡ None
    → length payload ≡ kind_payload k false len (length body)
    → IsLastFound d (kind_item k false s.lcid payload) k header body
unfolding IsLastFound IsKindOf IsFoundElement fault_of
last_found d st s header body payload rest h more fits split kind.Sdu ek None el none size =
    let low : s.lcid ≤ 10 = kind_at d s.lcid kind.Sdu (sym ek ∙ h.kind_is) in
    let behind : rest ≡ [] = nil_from_length rest (omega (arith, ap length split, length-append payload rest, size)) in
    ((low, begins_alone d s header false more h (rw (ek, more) refl)), split ∙ rw behind (append-nil payload), refl)
last_found d st s header body payload rest h more fits split kind.Sdu ek (Some len) el none size =
    let both : (is_sdu s.kind && s.more) ≡ false = rw (ek, more) refl in
    let tail : IsTail false s.length h.tail = subst (λ (b : Bool). IsTail b s.length h.tail) both h.tail_is in
    let tail' : IsTail false (Some len) h.tail = subst (λ (o : Option ℕ). IsTail false o h.tail) el tail in
    absurd tail'
last_found d st s header body payload rest h more fits split (kind.Control e) ek len el none size =
    let f = element_found d e s.lcid payload (kind_at d s.lcid (kind.Control e) (sym ek ∙ h.kind_is)) size fits in
    let alone = begins_alone d s header false more h (rw ek refl) in (
      (f.0, subst (λ (l : ℕ). BeginsWith false l [] header) (sym f.1) alone),
      (payload, rest, split, f.2),
      ap (λ (x : Element). kind.Control x) f.3,
    )
last_found d st s header body payload rest h more fits split kind.Padding ek len el none size =
    let is : s.lcid ≡ 31 = kind_at d s.lcid kind.Padding (sym ek ∙ h.kind_is) in (
      subst (λ (l : ℕ). BeginsWith false l [] header) is (begins_alone d s header false more h (rw ek refl)),
      sym size,
      refl,
    )
last_found d st s header body payload rest h more fits split kind.Reserved ek len el none size = absurd cc

-- Blocks.

no_fault_here : (st : Stage) (at total : ℕ) (s : Subheader) (ss : List Subheader)
    → first_fault st at total (s ∷ ss) ≡ None → fault_of st s.kind s.more ≡ None
unfolding first_fault
no_fault_here st at total s ss e = go (fault_of st s.kind s.more) _ e
  where
    go : (w : Option MacWhy) (rest : Option MacRefusal) → or_fault w at rest ≡ None → w ≡ None
    go None rest e = refl
    go (Some w) rest e = absurd cc

within_here : (at : ℕ) (s : Subheader) (ss : List Subheader) (body : List ℕ) → overrun at (s ∷ ss) body ≡ None
    → (payload_len s (length body) ≤ length body)
    × (overrun (at + s.size) ss (drop (payload_len s (length body)) body) ≡ None)
unfolding overrun
within_here at s ss body e = elim (cases_lt (length body) (payload_len s (length body))) [
  | inl lt ↦ absurd (some_none at (rw (lt-ltb _ _ lt) at e))
  | inr le ↦ (le, rw (le-ltb _ _ le) at e)
]

placed_cons : (d : Direction) (st : Stage) (k : Kind) (lcid : ℕ) (payload : List ℕ) (q : MacItem) (ps : List MacItem)
    → fault_of st k true ≡ None → IsPlaced (q ∷ ps) → IsPlaced (kind_item k true lcid payload ∷ q ∷ ps)
unfolding fault_of
placed_cons d st kind.Sdu lcid payload q ps none h = h
placed_cons d st (kind.Control e) lcid payload q ps none h = h
placed_cons d st kind.Padding lcid payload q ps none h = h
placed_cons d st kind.Reserved lcid payload q ps none h = absurd cc

placed_last : (st : Stage) (k : Kind) (lcid : ℕ) (payload : List ℕ) → fault_of st k false ≡ None
    → IsPlaced (kind_item k false lcid payload ∷ [])
unfolding fault_of
placed_last st kind.Sdu lcid payload none = tt
placed_last st (kind.Control e) lcid payload none = tt
placed_last st kind.Padding lcid payload none = tt
placed_last st kind.Reserved lcid payload none = absurd cc

-- what items are
AreFound : Direction → Stage → List MacItem → List ℕ → List ℕ → Type 0
AreFound d st ps header body = IsHeader d ps header × IsBody ps body × NoFault st ps × IsPlaced ps

found_alone : (d : Direction) (st : Stage) (s : Subheader) (header body : List ℕ) → IsSubheader d s header
    → s.more ≡ false → fault_of st s.kind s.more ≡ None
    → payload_len s (length body) ≤ length body → AreOctets body
    → AreFound d st (item_of s (take (payload_len s (length body)) body) ∷ []) header body
unfolding AreFound IsLastFound item_of payload_len
found_alone d st s header body h more none within fits =
    let n = kind_payload s.kind s.more s.length (length body) in
    let none' : fault_of st s.kind false ≡ None = subst (λ (b : Bool). fault_of st s.kind b ≡ None) more none in
    let size : length (take n body) ≡ n = omega (arith, length-take n body) in
    let size' : length (take n body) ≡ kind_payload s.kind false s.length (length body) =
    size ∙ ap (λ (b : Bool). kind_payload s.kind b s.length (length body)) more in
    let f = last_found d st s header body (take n body) (drop n body) h more (Octets-take n body fits)
    (sym (take-append-drop n body)) s.kind refl s.length refl none' size' in
    let result : AreFound d st (kind_item s.kind false s.lcid (take n body) ∷ []) header body = (
      f.0,
      f.1,
      subst (λ (k : Kind). fault_of st k false ≡ None) (sym f.2) none',
      placed_last st s.kind s.lcid (take n body) none',
    ) in
    subst (λ (b : Bool). AreFound d st (kind_item s.kind b s.lcid (take n body) ∷ []) header body) (sym more) result

found_cons : (d : Direction) (st : Stage) (s : Subheader) (q : MacItem) (ps : List MacItem) (first rest body : List ℕ)
    → IsSubheader d s first → s.more ≡ true → fault_of st s.kind s.more ≡ None
    → payload_len s (length body) ≤ length body → AreOctets body
    → AreFound d (after st s.kind) (q ∷ ps) rest (drop (payload_len s (length body)) body)
    → AreFound d st (item_of s (take (payload_len s (length body)) body) ∷ q ∷ ps) (first ++ rest) body
unfolding AreFound IsInnerFound item_of payload_len
found_cons d st s q ps first rest body h more none within fits others =
    let n = kind_payload s.kind s.more s.length (length body) in
    let none' : fault_of st s.kind true ≡ None = subst (λ (b : Bool). fault_of st s.kind b ≡ None) more none in
    let size : length (take n body) ≡ n = omega (arith, length-take n body) in
    let size' : length (take n body) ≡ kind_payload s.kind true s.length (length body) =
    size ∙ ap (λ (b : Bool). kind_payload s.kind b s.length (length body)) more in
    let p = kind_item s.kind true s.lcid (take n body) in
    let f = inner_found d st s first (take n body) (length body) h more (Octets-take n body fits) s.kind refl s.length
    refl none' size' in
    let later : NoFault (after st (item_kind p)) (q ∷ ps) =
    subst (λ (k : Kind). NoFault (after st k) (q ∷ ps)) (sym f.2) others.2 in
    let result : AreFound d st (p ∷ q ∷ ps) (first ++ rest) body = (
      (first, rest, refl, f.0, others.0),
      (take n body, drop n body, sym (take-append-drop n body), f.1, others.1),
      (subst (λ (k : Kind). fault_of st k true ≡ None) (sym f.2) none', later),
      placed_cons d st s.kind s.lcid (take n body) q ps none' others.3,
    ) in
    subst (λ (b : Bool). AreFound d st (kind_item s.kind b s.lcid (take n body) ∷ q ∷ ps) (first ++ rest) body)
    (sym more) result

are_found : (d : Direction) (st : Stage) (at total place : ℕ) (ss : List Subheader) (header body : List ℕ)
    → AreSubheaders d ss header → first_fault st at total ss ≡ None → overrun place ss body ≡ None
    → AreOctets body → AreFound d st (items ss body) header body
unfolding items
are_found d st at total place [] header body h f o fits = absurd h
are_found d st at total place (s ∷ []) header body h f o fits =
    found_alone d st s header body h.0 h.1 (no_fault_here st at total s [] f) ((within_here place s [] body o).0) fits
are_found d st at total place (s ∷ t ∷ ss) header body h f o fits =
    let w = within_here place s (t ∷ ss) body o in
    let n = payload_len s (length body) in
    let others = are_found d (after st s.kind) (at + s.size) total (place + s.size) (t ∷ ss) h.1 (drop n body) h.5
    (later_fault st at total s (t ∷ ss) f h.4) w.1 (Octets-drop n body fits) in
    let all = found_cons d st s _ _ h.0 h.1 body h.3 h.4 (no_fault_here st at total s (t ∷ ss) f) w.0 fits others in
    subst (λ (o : List ℕ). AreFound d st (items (s ∷ t ∷ ss) body) o body) (sym h.2) all

-- the cases of a reading
record IsReading (d : Direction) (octets : List ℕ) (ps : List MacItem) : Type 0 where
  ordered : first_fault stage.Start 0 (length octets) (subheaders d 0 octets) ≡ None
  within : overrun 0 (subheaders d 0 octets) (drop (header_size (subheaders d 0 octets)) octets) ≡ None
  found : ps ≡ items (subheaders d 0 octets) (drop (header_size (subheaders d 0 octets)) octets)

reading_cases : (d : Direction) (octets : List ℕ) (ps : List MacItem) → reading d octets ≡ Ok ps → IsReading d octets ps
unfolding reading refusal_of
reading_cases d octets ps e =
    go (first_fault stage.Start 0 (length octets) (subheaders d 0 octets))
    (overrun 0 (subheaders d 0 octets) (drop (header_size (subheaders d 0 octets)) octets)) refl refl e
  where
    go : (a : Option MacRefusal) (b : Option ℕ)
        → first_fault stage.Start 0 (length octets) (subheaders d 0 octets) ≡ a
        → overrun 0 (subheaders d 0 octets) (drop (header_size (subheaders d 0 octets)) octets) ≡ b
        → or_refused (first_of a (past b))
        (items (subheaders d 0 octets) (drop (header_size (subheaders d 0 octets)) octets)) ≡ Ok ps
        → IsReading d octets ps
    go None None ea eb r = record { ordered = ea; within = eb; found = cc }
    go None (Some at) ea eb r = absurd cc
    go (Some x) b ea eb r = absurd cc

-- what is read is in the grammar
pub in_grammar : (d : Direction) (ps : List MacItem) (octets : List ℕ) → AreOctets octets → reading d octets ≡ Ok ps
    → MacPdu d ps octets
unfolding Split Later AreFound
in_grammar d ps octets fits e =
    let r = reading_cases d octets ps e in
    let ss = subheaders d 0 octets in
    let w = header_written d stage.Start 0 (length octets) ss octets fits refl r.ordered in
    let size : header_size ss ≡ length w.0 = (header_read d ss w.0 w.1 w.3).1 in
    let behind : drop (header_size ss) octets ≡ w.1 =
    rw size (subst (λ (o : List ℕ). drop (length w.0) o ≡ w.1) (sym w.2) (drop_at w.0 w.1 (length w.0) refl)) in
    let body-fits : AreOctets w.1 = Octets-rest w.0 w.1 (subst AreOctets w.2 fits) in
    let f = are_found d stage.Start 0 (length octets) 0 ss w.0 w.1 w.3 r.ordered
    (subst (λ (b : List ℕ). overrun 0 ss b ≡ None) behind r.within) body-fits in
    let is : ps ≡ items ss w.1 = r.found ∙ ap (items ss) behind in
    let found : MacPdu d (items ss w.1) octets = record {
      header = w.0;
      body = w.1;
      block = w.2;
      ordered = allowed_ordered (items ss w.1) f.2 f.3;
      subheaders = f.0;
      payloads = f.1;
    } in
    subst (λ (xs : List MacItem). MacPdu d xs octets) (sym is) found

pub found_in : (d : Direction) (octets : List ℕ) (r : Result (List MacItem) MacRefusal) → AreOctets octets
    → r ≡ reading d octets → IfOk r (λ ps. MacPdu d ps octets)
found_in d octets (Ok ps) fits e = in_grammar d ps octets fits (sym e)
found_in d octets (Err x) fits e = tt

-- Refusals.

reading_refused : (d : Direction) (octets : List ℕ) (e : MacRefusal) → reading d octets ≡ Err e
    → refusal_of d octets ≡ Some e
unfolding reading
reading_refused d octets e h = go (refusal_of d octets) _ h
  where
    go : (a : Option MacRefusal) (ps : List MacItem) → or_refused a ps ≡ Err e → a ≡ Some e
    go (Some x) ps h = ap (λ (y : MacRefusal). Some y) cc
    go None ps h = absurd cc

pub refused_in : (d : Direction) (octets : List ℕ) (r : Result (List MacItem) MacRefusal) → r ≡ reading d octets
    → IfErr r (λ e. refusal_of d octets ≡ Some e)
refused_in d octets (Ok ps) e = tt
refused_in d octets (Err x) e = reading_refused d octets x (sym e)

pub refused : (d : Direction) (octets : List ℕ) (e : MacRefusal) → refusal_of d octets ≡ Some e
    → reading d octets ≡ Err e
unfolding reading
refused d octets e h = rw h refl
