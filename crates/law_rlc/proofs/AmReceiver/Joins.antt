-- SDUs put together over gaps are those of which all octets have arrived.
use Rattle.std.proofs.Common.{◌≡◌, ◌⊎◌, inl, inr, ℕ, Bool, true, false, ◌&&◌, List, [], ◌∷◌, ◌++◌, map, Option, Some}
use Rattle.std.proofs.Common.{None, refl, ap, sym, subst, ◌∙◌, append_assoc, if◌then◌else◌}
use Rattle.std.proofs.lemmas.List.{append-nil}
use Rattle.rlc_am_rx_window.specs.Cells.{Cell}
use Rattle.rlc_am_rx_window.specs.Joined.{Joined, opened, extended, some_sdu, closed, with_place, joined}
use Rattle.law_rlc.specs.AmReceiver.Finish.{Place, cut, all_come, octets_of, whole_of}

-- a place as the receiver holds it
abbrev pub held : Place → Option Cell
held p = if p.come then Some p.cell else None

-- each SDU begins where the one before it ends
abbrev pub IsChain : Bool → List Place → Type 0
IsChain b [] = Unit {0}
IsChain b (p ∷ ps) = (p.cell.begins ≡ b) × IsChain p.cell.ends ps

abbrev pub known : Bool → List Place → Option (List ℕ)
known true current = Some (octets_of current)
known false current = None

-- what is put together of the SDU so far
abbrev pub Fits : Bool → List Place → Option (List ℕ) → Type 0
Fits true current part = (current ≡ []) × ((part ≡ Some []) ⊎ (part ≡ None))
Fits false current part = part ≡ known (all_come current) current

all_push : (ps : List Place) (p : Place) → all_come (ps ++ p ∷ []) ≡ (all_come ps && p.come)
all_push [] p = and_true p.come
  where
    and_true : (b : Bool) → (b && true) ≡ b
    and_true true = refl
    and_true false = refl
all_push (q ∷ ps) p = ap (λ (b : Bool). q.come && b) (all_push ps p) ∙ sym (and_assoc q.come (all_come ps) p.come)
  where
    and_assoc : (a b c : Bool) → ((a && b) && c) ≡ (a && (b && c))
    and_assoc true b c = refl
    and_assoc false b c = refl

octets_push : (ps : List Place) (p : Place) → octets_of (ps ++ p ∷ []) ≡ octets_of ps ++ p.cell.octet ∷ []
octets_push [] p = refl
octets_push (q ∷ ps) p = ap (λ (os : List ℕ). q.cell.octet ∷ os) (octets_push ps p)

-- with the next octet
come_known : (b : Bool) (current : List Place) (part : Option (List ℕ)) (p : Place) → Fits b current part
    → p.come ≡ true → extended (opened part b) (p.cell.octet ∷ [])
    ≡ known (all_come (current ++ p ∷ [])) (current ++ p ∷ [])
come_known true current part p f c = rw f.0 (go part f.1)
  where
    go : (part : Option (List ℕ)) → (part ≡ Some []) ⊎ (part ≡ None)
        → extended (opened part true) (p.cell.octet ∷ []) ≡ known (p.come && true) (p ∷ [])
    go part (inl e) = rw (e, c) refl
    go part (inr e) = rw (e, c) refl
come_known false current part p f c =
    ap (λ (o : Option (List ℕ)). extended (opened o false) (p.cell.octet ∷ [])) f ∙ go (all_come current)
    ∙ ap (λ (b : Bool). known b (current ++ p ∷ []))
    (sym (all_push current p ∙ ap (λ (b : Bool). all_come current && b) c))
  where
    go : (a : Bool) → extended (opened (known a current) false) (p.cell.octet ∷ [])
        ≡ known (a && true) (current ++ p ∷ [])
    go true = ap (λ (os : List ℕ). Some os) (sym (octets_push current p))
    go false = refl

gone_known : (current : List Place) (p : Place) → p.come ≡ false → all_come (current ++ p ∷ []) ≡ false
gone_known current p c = all_push current p ∙ ap (λ (b : Bool). all_come current && b) c ∙ and_false (all_come current)
  where
    and_false : (b : Bool) → (b && false) ≡ false
    and_false true = refl
    and_false false = refl

some_whole : (a : Bool) (s : List Place) (ss : List (List Place)) (ready : List (List ℕ))
    → (ready ++ some_sdu (known a s)) ++ whole_of ss ≡ ready ++ (if a then octets_of s ∷ whole_of ss else whole_of ss)
some_whole true s ss ready = append_assoc ready (octets_of s ∷ []) (whole_of ss)
some_whole false s ss ready = ap (λ (r : List (List ℕ)). r ++ whole_of ss) (append-nil ready)

-- what is ready at the end are the SDUs all of whose octets have arrived
pub ready_is_whole : (ps : List Place) (b : Bool) (current : List Place) (j : Joined) → IsChain b ps
    → Fits b current j.part → (joined j (map held ps)).ready ≡ j.ready ++ whole_of (cut current ps)
ready_is_whole [] b current j chain f = sym (append-nil j.ready)
ready_is_whole (p ∷ ps) b current j chain f =
    go p.come refl p.cell.ends refl (λ e k g. ready_is_whole ps e [] k g)
    (λ k g. ready_is_whole ps false (current ++ p ∷ []) k g)
  where
    next : List Place
    next = current ++ p ∷ []

    part : p.come ≡ true → extended (opened j.part p.cell.begins) (p.cell.octet ∷ []) ≡ known (all_come next) next
    part c = ap (λ (x : Bool). extended (opened j.part x) (p.cell.octet ∷ [])) chain.0
        ∙ come_known b current j.part p f c

    go : (c : Bool) → p.come ≡ c → (e : Bool) → p.cell.ends ≡ e
        → ((e : Bool) (k : Joined) → IsChain e ps → Fits e [] k.part
        → (joined k (map held ps)).ready ≡ k.ready ++ whole_of (cut [] ps))
        → ((k : Joined) → IsChain false ps → Fits false next k.part
        → (joined k (map held ps)).ready ≡ k.ready ++ whole_of (cut next ps))
        → (joined (with_place j (if c then Some p.cell else None)) (map held ps)).ready
        ≡ j.ready ++ whole_of (if e then next ∷ cut [] ps else cut next ps)
    go true c true e fresh on =
        let place : with_place j (Some p.cell) ≡ record {
          ready = j.ready ++ some_sdu (known (all_come next) next);
          part = Some [];
        } =
        ap (λ (x : Bool). closed x j.ready (extended (opened j.part p.cell.begins) (p.cell.octet ∷ []))) e
        ∙ ap (λ (o : Option (List ℕ)). closed true j.ready o) (part c) in
        ap (λ (k : Joined). (joined k (map held ps)).ready) place
        ∙ fresh true (record { ready = j.ready ++ some_sdu (known (all_come next) next); part = Some [] })
        (subst (λ (x : Bool). IsChain x ps) e chain.1) (refl, inl refl)
        ∙ some_whole (all_come next) next (cut [] ps) j.ready
    go true c false e fresh on =
        let place : with_place j (Some p.cell) ≡ record { ready = j.ready; part = known (all_come next) next } =
        ap (λ (x : Bool). closed x j.ready (extended (opened j.part p.cell.begins) (p.cell.octet ∷ []))) e
        ∙ ap (λ (o : Option (List ℕ)). closed false j.ready o) (part c) in
        ap (λ (k : Joined). (joined k (map held ps)).ready) place
        ∙ on (record { ready = j.ready; part = known (all_come next) next })
        (subst (λ (x : Bool). IsChain x ps) e chain.1) refl
    go false c true e fresh on =
        fresh true (record { ready = j.ready; part = None }) (subst (λ (x : Bool). IsChain x ps) e chain.1) (
          refl,
          inr refl,
        )
        ∙ rw (gone_known current p c) refl
    go false c false e fresh on =
        on (record { ready = j.ready; part = None }) (subst (λ (x : Bool). IsChain x ps) e chain.1)
        (rw (gone_known current p c) refl)
