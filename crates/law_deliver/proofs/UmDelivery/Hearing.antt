-- What RLC hands up, as events of PDCP's receiver.
use Rattle.std.proofs.Common.{◌≡◌, ◌<◌, ℕ, zero, suc, ◌+◌, ◌-◌, ◌^◌, List, [], ◌∷◌, ◌++◌, map, length, drop, take}
use Rattle.std.proofs.Common.{Option, Some, slice_get, slice_index_or, append_assoc, append-nil, refl, ap, sym, subst}
use Rattle.std.proofs.Common.{◌∙◌, arith}
use Rattle.l2_num.specs.Ascending.{AreBetween}
use Rattle.pdcp_pdu.specs.declared.PdcpKind.TheVariants.{Um as UmKind}
use Rattle.pdcp_pdu.specs.Kinds.{bits_of}
use Rattle.pdcp_rx.specs.declared.got.Cause.{Cause}
use Rattle.pdcp_rx.specs.State.{State as Receiving, arrived}
use Rattle.pdcp_tx.specs.declared.sender.Next.{Next}
use Rattle.law_pdcp.specs.OneEnd.Lives.{submitted_in}
use Rattle.law_bearer.proofs.AmBearer.Keeping.{arrives_alike}
use Rattle.law_words.specs.Lists.{those}
use Rattle.law_deliver.specs.UmFlow.Flows.{behind}
use Rattle.law_deliver.specs.UmFlow.Handing.{hears_one, hears, raises}
use Rattle.law_pdcp.specs.UmPair.Flow.{Flow, Event, HandUp, Raise, run_um_pdcp, comes, IsLater, AreGiven, AreShort}
use Rattle.law_pdcp.specs.UmPair.Flow.{steps}
use Rattle.law_pdcp.proofs.UmPair.Choice.{between_end}
use Rattle.law_deliver.specs.UmDelivery.Delivery.{FewBetween}
use Rattle.law_deliver.proofs.UmDelivery.Sending.{octets, run_then, given_then, short_then, submitted_then}

-- ---- all that is ready goes up

raises_off : (sdus : List (List ℕ)) (f : Flow) → f.receiver.ready ≡ sdus
    → run_um_pdcp (map (λ sdu. Raise) sdus) f ≡ record f {
      receiver = record f.receiver { ready = [] };
      up = f.up ++ sdus;
    }
raises_off [] f q =
    ap (λ (l : List (List ℕ)). record f { receiver = record f.receiver { ready = l } }) q
    ∙ ap (λ (l : List (List ℕ)). record f { receiver = record f.receiver { ready = [] }; up = l })
    (sym (append-nil f.up))
raises_off (x ∷ sdus) f q =
    let g : Flow = record f {
      receiver = record f.receiver { ready = drop 1 f.receiver.ready };
      up = f.up ++ take 1 f.receiver.ready;
    } in
    raises_off sdus g (ap (drop 1) q)
    ∙ ap (λ (l : List (List ℕ)). record f { receiver = record f.receiver { ready = [] }; up = (f.up ++ l) ++ sdus })
    (ap (take 1) q)
    ∙ ap (λ (l : List (List ℕ)). record f { receiver = record f.receiver { ready = [] }; up = l })
    (append_assoc f.up (x ∷ []) sdus)

may_raise : (sdus : List (List ℕ)) (f : Flow) → AreGiven f (map (λ sdu. Raise) sdus)
may_raise [] f = tt
may_raise (x ∷ sdus) f = (tt, may_raise sdus _)

short_raise : (sdus : List (List ℕ)) (f : Flow) → AreShort f (map (λ sdu. Raise) sdus)
short_raise [] f = tt
short_raise (x ∷ sdus) f = (tt, short_raise sdus _)

raise_submits : (sdus : List (List ℕ)) → submitted_in (steps (map (λ sdu. Raise) sdus)) ≡ []
raise_submits [] = refl
raise_submits (x ∷ sdus) = raise_submits sdus

-- ---- events that lead from a flow to another, and submit nothing

pub record HandsUp (f g : Flow) : Type 0 where
  pub events : List Event
  pub may : AreGiven f events
  pub short : AreShort f events
  pub left : run_um_pdcp events f ≡ g
  pub submits_none : submitted_in (steps events) ≡ []

pub ups_then : (f g h : Flow) → HandsUp f g → HandsUp g h → HandsUp f h
ups_then f g h m k = record {
  events = m.events ++ k.events;
  may = given_then m.events k.events f m.may (subst (λ (x : Flow). AreGiven x k.events) (sym m.left) k.may);
  short = short_then m.events k.events f m.short (subst (λ (x : Flow). AreShort x k.events) (sym m.left) k.short);
  left = run_then m.events k.events f ∙ ap (run_um_pdcp k.events) m.left ∙ k.left;
  submits_none = submitted_then m.events k.events
      ∙ ap (λ (l : List (List ℕ)). l ++ submitted_in (steps k.events)) m.submits_none ∙ k.submits_none;
}

-- ---- one PDU

record Stands (ns : List Next) (k : ℕ) : Type 0 where
  x : Next
  at : slice_get ns k ≡ Some x
  text : slice_index_or (octets ns) k [] ≡ x.octets

stands : (ns : List Next) (k : ℕ) → k < length ns → Stands ns k
stands [] k lt = absurd (omega (arith, lt))
stands (n ∷ ns) zero lt = record { x = n; at = refl; text = refl }
stands (n ∷ ns) (suc k) lt = let s = stands ns k (omega (arith, lt)) in record { x = s.x; at = s.at; text = s.text }

abbrev up_one : Cause → ℕ → List ℕ → Flow → Flow
up_one cause place pdu f = record f {
  receiver = hears_one cause pdu f.receiver;
  up = f.up ++ (arrived f.receiver pdu cause).ready;
  passed = place + 1;
  handed = f.handed ++ (f.earlier + place) ∷ [];
}

one_up : (cause : Cause) (place : ℕ) (f : Flow) → IsLater f place → place - f.passed < 2 ^ bits_of f.receiver.kind
    → HandsUp f (up_one cause place (slice_index_or (octets f.stream) place []) f)
one_up cause place f later few =
    let s = stands f.stream place later.given in
    let pdu : List ℕ = slice_index_or (octets f.stream) place [] in
    let ready : List (List ℕ) = (arrived f.receiver pdu cause).ready in
    let came : comes (slice_get f.stream place) cause place f
    ≡ record f {
      receiver = arrived f.receiver pdu cause;
      passed = place + 1;
      handed = f.handed ++ (f.earlier + place) ∷ [];
    } =
    ap (λ (o : Option Next). comes o cause place f) s.at
    ∙ ap (λ (l : List ℕ). record f {
      receiver = arrived f.receiver l cause;
      passed = place + 1;
      handed = f.handed ++ (f.earlier + place) ∷ [];
    }) (sym s.text) in
    record {
      events = HandUp cause place ∷ map (λ sdu. Raise) ready;
      may = (later, may_raise ready _);
      short = (few, short_raise ready _);
      left =
          ap (run_um_pdcp (map (λ sdu. Raise) ready)) came
          ∙ raises_off ready (record f {
            receiver = arrived f.receiver pdu cause;
            passed = place + 1;
            handed = f.handed ++ (f.earlier + place) ∷ [];
          }) refl;
      submits_none = raise_submits ready;
    }

-- ---- several, one after the other

abbrev pub risen : Cause → List ℕ → Flow → Flow
risen cause ps f = record f {
  receiver = hears cause (those ps (octets f.stream)) f.receiver;
  up = f.up ++ raises cause (those ps (octets f.stream)) f.receiver;
  passed = behind f.passed ps;
  handed = f.handed ++ map (λ place. f.earlier + place) ps;
}

risen_none : (cause : Cause) (f : Flow) → f ≡ risen cause [] f
risen_none cause f =
    ap (λ (l : List (List ℕ)). record f { up = l }) (sym (append-nil f.up))
    ∙ ap (λ (l : List ℕ). record f { up = f.up ++ []; handed = l }) (sym (append-nil f.handed))

risen_more : (cause : Cause) (place : ℕ) (ps : List ℕ) (f : Flow)
    → risen cause ps (up_one cause place (slice_index_or (octets f.stream) place []) f) ≡ risen cause (place ∷ ps) f
risen_more cause place ps f =
    let os : List (List ℕ) = octets f.stream in
    let pdu : List ℕ = slice_index_or os place [] in
    let r : Receiving = hears_one cause pdu f.receiver in
    let places : List ℕ = map (λ place. f.earlier + place) ps in
    let low : List ℕ = (f.earlier + place) ∷ [] in
    ap (λ (l : List (List ℕ)). record f {
      receiver = hears cause (those ps os) r;
      up = l;
      passed = behind (place + 1) ps;
      handed = (f.handed ++ low) ++ places;
    })
    (append_assoc f.up (arrived f.receiver pdu cause).ready (raises cause (those ps os) r))
    ∙ ap (λ (l : List ℕ). record f {
      receiver = hears cause (those ps os) r;
      up = f.up ++ ((arrived f.receiver pdu cause).ready ++ raises cause (those ps os) r);
      passed = behind (place + 1) ps;
      handed = l;
    })
    (append_assoc f.handed low places)

pub all_up : (cause : Cause) (bits : ℕ) (ps : List ℕ) (f : Flow) → f.receiver.kind ≡ UmKind bits
    → AreBetween f.passed ps (length f.stream) → FewBetween bits f.passed ps
    → HandsUp f (risen cause ps f)
all_up cause bits [] f q h few =
    record { events = []; may = tt; short = tt; left = risen_none cause f; submits_none = refl }
all_up cause bits (place ∷ ps) f q h few =
    let pdu : List ℕ = slice_index_or (octets f.stream) place [] in
    let g : Flow = up_one cause place pdu f in
    let end = between_end (place + 1) ps (length f.stream) h.1 in
    let one : HandsUp f g =
    one_up cause place f (record { later = h.0; given = omega (arith, end) })
    (subst (λ (n : ℕ). place - f.passed < 2 ^ n) (sym (ap bits_of q)) few.0) in
    let rest : HandsUp g (risen cause ps g) =
    all_up cause bits ps g ((arrives_alike f.receiver pdu cause).kind ∙ q) h.1 few.1 in
    subst (HandsUp f) (risen_more cause place ps f) (ups_then f g (risen cause ps g) one rest)

pub hears_kind : (cause : Cause) (pdus : List (List ℕ)) (r : Receiving) → (hears cause pdus r).kind ≡ r.kind
hears_kind cause [] r = refl
hears_kind cause (pdu ∷ pdus) r = hears_kind cause pdus (hears_one cause pdu r) ∙ (arrives_alike r pdu cause).kind

-- ---- some places, and then others

pub few_then : (bits low : ℕ) (xs ys : List ℕ) → FewBetween bits low (xs ++ ys)
    → FewBetween bits low xs × FewBetween bits (behind low xs) ys
few_then bits low [] ys h = (tt, h)
few_then bits low (x ∷ xs) ys h = let k = few_then bits (x + 1) xs ys h.1 in ((h.0, k.0), k.1)
