-- What a bearer tells it tells of its own channel; as it writes it hands nothing up, and it discards only as a TTI
-- begins.
use Rattle.std.proofs.Common.{◌≡◌, ℕ, ◌==◌, Bool, true, false, cond, if◌then◌else◌, Option, Some, None, IfSome}
use Rattle.std.proofs.Common.{unwrap_or, List, [], ◌∷◌, ◌++◌, append_assoc, refl, ap, sym, subst, ◌∙◌, arith, inl, inr}
use Rattle.std.proofs.lemmas.Bool.Decides.{nat_tests}
use Rattle.std.proofs.lemmas.List.Elements.{filter-append, recursion_from_All}
use Rattle.std.proofs.lemmas.Grind.{flat_map-append}
use Rattle.std.specs.List.{AllByRecursion, flat_map}
use Rattle.bearer.specs.declared.flow.Flow.{Flow}
use Rattle.bearer.specs.Hearing.{expiry}
use Rattle.bearer.specs.Lives.{stopping}
use Rattle.bearer.specs.Taking.{told}
use Rattle.law_bearer.proofs.AnyBearer.Between.{IsBetween, submits, discards, takes, arrives, expires, ticks_of}
use Rattle.law_bearer.proofs.AnyBearer.Told.{told_in_order}
use Rattle.law_bearer.specs.AnyBearer.Calls.{Call as BearerCall, Submit as Submits, Take as Takes, Arrive as Arrives}
use Rattle.law_bearer.specs.AnyBearer.Calls.{Expire as Expires, Tick as Ticks, SetDiscard as SetsDiscard}
use Rattle.law_bearer.specs.AnyBearer.Calls.{after as called, after_all}
use Rattle.law_bearer.specs.AnyBearer.Order.{is_signalling}
use Rattle.law_words.specs.BearerOrder.{OfEvents as Sequences, a_status, a_report, a_take, a_data_pdu, a_wait}
use Rattle.law_words.specs.BearerOrder.{in_a_block, an_up, of_an_sdu, of_an_arrived_sdu, of_a_data_pdu, of_a_status}
use Rattle.law_words.specs.BearerOrder.{of_a_pdu, of_an_expiry, a_discard, of_discards, in_a_tti, at_the_end}
use Rattle.law_words.specs.Sequences.{SequencesOf, nothing, just, ◌then◌, ◌or◌, maybe, many, joined, any}
use Rattle.law_words.specs.Sequences.{each as all_of}
use Rattle.bearer_types.specs.declared.event.Event.{Event}
use Rattle.bearer_types.specs.declared.event.Event.TheVariants.{Take, Report, Send, Wait, Start, Stop, Expired, Up}
use Rattle.bearer_types.specs.declared.event.Event.TheVariants.{Fail, Drop, Integrity, BadMac, BadRlc, BadPdcp, Discard}
use Rattle.l2_types.specs.declared.event.Clock.{Clock}
use Rattle.l2_types.specs.declared.event.Clock.TheVariants.{Poll, Reorder, Prohibit}
use Rattle.l2_types.specs.declared.event.How.{How}
use Rattle.l2_types.specs.declared.event.How.TheVariants as how
use Rattle.l2_types.specs.declared.event.Lost.{Lost}
use Rattle.l2_types.specs.declared.event.Lost.TheVariants as lost
use Rattle.l2_types.specs.declared.event.Waits.{Waits}
use Rattle.pdcp_pdu.specs.declared.PdcpRefusal.{PdcpRefusal}
use Rattle.rlc_pdu.specs.declared.fault.RlcRefusal.{RlcRefusal}
use Rattle.law_deliver.specs.AmFlow.Ups.{up_on, ups_on, of_calls, tells_in, tells_over, goes_up_in, go_up_over}
use Rattle.law_deliver.specs.AmFlow.Ups.{discarded_in, discarded_over}
use Rattle.promises.specs.Events.{is_on, told_on, discards_in, discards_on}

-- ---- what holds of each event of any sequence of a set

module _ {X : Type 0} (P : X → Type 0) where
  abbrev pub Hold : SequencesOf X → Type 0
  Hold A = (told : List X) → A told → AllByRecursion P told

  pub both : (xs ys : List X) → AllByRecursion P xs → AllByRecursion P ys → AllByRecursion P (xs ++ ys)
  both [] ys p q = q
  both (x ∷ xs) ys p q = (p.0, both xs ys p.1 q)

  the_same : (xs ys : List X) → xs ≡ ys → AllByRecursion P ys → AllByRecursion P xs
  the_same xs ys e p = subst (λ (zs : List X). AllByRecursion P zs) (sym e) p

  pub never : Hold nothing
  never events e = the_same events [] e tt

  pub one : (x : X) → P x → Hold (just x)
  one x p events e = the_same events (x ∷ []) e (p, tt)

  pub behind : (A B : SequencesOf X) → Hold A → Hold B → Hold (A then B)
  behind A B a b events r =
      the_same events (r.first ++ r.second) r.told_are
      (both r.first r.second (a r.first r.is_first) (b r.second r.is_second))

  pub either : (A B : SequencesOf X) → Hold A → Hold B → Hold (A or B)
  either A B a b events (inl p) = a events p
  either A B a b events (inr q) = b events q

  pub perhaps : (A : SequencesOf X) → Hold A → Hold (maybe A)
  perhaps A a = either nothing A never a

  each_part : (A : SequencesOf X) → Hold A → (parts : List (List X)) → AllByRecursion A parts
      → AllByRecursion P (joined parts)
  each_part A a [] h = tt
  each_part A a (x ∷ xs) h = both x (joined xs) (a x h.0) (each_part A a xs h.1)

  pub each : (A : SequencesOf X) → Hold A → Hold (many A)
  each A a events r =
      the_same events (joined r.parts) r.told_are (each_part A a r.parts (recursion_from_All A r.parts r.are_each))

  pub whichever : {Y : Type 0} (f : Y → SequencesOf X) → ((y : Y) → Hold (f y)) → Hold (any f)
  whichever f a events r = a r.0 events r.1

  -- of each of a list
  pub each_one : {Y : Type 0} (f : Y → SequencesOf X) → ((y : Y) → Hold (f y)) → (ys : List Y) → Hold (all_of f ys)
  each_one f a [] = never
  each_one f a (y ∷ ys) = behind (f y) (all_of f ys) (a y) (each_one f a ys)

  -- of each of a list of which something is known
  pub in_turn : {Y : Type 0} (Q : Y → Type 0) (f : Y → SequencesOf X) → ((y : Y) → Q y → Hold (f y)) → (ys : List Y)
      → AllByRecursion Q ys → Hold (all_of f ys)
  in_turn Q f a [] q = never
  in_turn Q f a (y ∷ ys) q = behind (f y) (all_of f ys) (a y q.0) (in_turn Q f a ys q.1)

-- why a bearer drops an SDU or a PDU
abbrev pub IsOfBearer : Lost → Type 0
IsOfBearer lost.NoBearer = ⊥
IsOfBearer why = Unit {0}

module _ (P : Event → Type 0) where
  -- ---- as a bearer writes

  pub record OfWriting (m : ℕ) : Type 0 where
    pub send : (way : How) (sn : ℕ) → P (Send m way sn)
    pub start : (clock : Clock) → P (Start m clock)
    pub report : (fms : ℕ) (bitmap : List ℕ) → P (Report m fms bitmap)
    pub take : (count : Option ℕ) (len : ℕ) → P (Take m count len)
    pub wait : (why : Waits) → P (Wait m why)

  pub block_holds : (m : ℕ) → OfWriting m → Hold P (in_a_block m)
  block_holds m w =
      let status : Hold P (a_status m) =
      behind P (any (λ (ack : ℕ). just (Send m how.Status ack))) (maybe (just (Start m Prohibit)))
      (whichever P (λ (ack : ℕ). just (Send m how.Status ack))
      (λ ack. one P (Send m how.Status ack) (w.send how.Status ack)))
      (perhaps P (just (Start m Prohibit)) (one P (Start m Prohibit) (w.start Prohibit))) in
      let report : Hold P (a_report m) =
      whichever P (λ (fms : ℕ). any (λ (bitmap : List ℕ). just (Report m fms bitmap)))
      (λ fms. whichever P (λ (bitmap : List ℕ). just (Report m fms bitmap))
      (λ bitmap. one P (Report m fms bitmap) (w.report fms bitmap))) in
      let take : Hold P (a_take m) =
      whichever P (λ (count : Option ℕ). any (λ (len : ℕ). just (Take m count len)))
      (λ count. whichever P (λ (len : ℕ). just (Take m count len))
      (λ len. one P (Take m count len) (w.take count len))) in
      let numbered : (sn : ℕ) → Sequences = λ sn. just (Send m how.New sn) or just (Send m how.Re sn) in
      let poll : Hold P (maybe (just (Start m Poll))) =
      perhaps P (just (Start m Poll)) (one P (Start m Poll) (w.start Poll)) in
      let pdu : Hold P (a_data_pdu m) =
      either P (just (Send m how.Tm 0)) (any numbered then maybe (just (Start m Poll)))
      (one P (Send m how.Tm 0) (w.send how.Tm 0))
      (behind P (any numbered) (maybe (just (Start m Poll)))
      (whichever P numbered
      (λ sn. either P (just (Send m how.New sn)) (just (Send m how.Re sn))
      (one P (Send m how.New sn) (w.send how.New sn)) (one P (Send m how.Re sn) (w.send how.Re sn)))) poll) in
      let wait : Hold P (a_wait m) =
      whichever P (λ (why : Waits). just (Wait m why)) (λ why. one P (Wait m why) (w.wait why)) in
      let last : Sequences = maybe (a_data_pdu m or a_wait m) in
      behind P (maybe (a_status m)) (maybe (a_report m) then many (a_take m) then last) (perhaps P (a_status m) status)
      (behind P (maybe (a_report m)) (many (a_take m) then last) (perhaps P (a_report m) report)
      (behind P (many (a_take m)) last (each P (a_take m) take)
      (perhaps P (a_data_pdu m or a_wait m) (either P (a_data_pdu m) (a_wait m) pdu wait))))

  -- ---- what becomes of SDUs

  pub record OfSdus (m : ℕ) : Type 0 where
    pub up : (sdu : List ℕ) → P (Up m sdu)
    pub drop : (why : Lost) → IsOfBearer why → P (Drop m why)
    pub integrity : (found wanted : List ℕ) → P (Integrity m found wanted)
    pub bad_pdcp : (fault : PdcpRefusal) → P (BadPdcp m fault)

  module _ (m : ℕ) (w : OfSdus m) where
    up_holds : Hold P (an_up m)
    up_holds = whichever P (λ (sdu : List ℕ). just (Up m sdu)) (λ sdu. one P (Up m sdu) (w.up sdu))

    integrity_holds : Hold P (any (λ (found : List ℕ). any (λ (wanted : List ℕ). just (Integrity m found wanted))))
    integrity_holds =
        whichever P (λ (found : List ℕ). any (λ (wanted : List ℕ). just (Integrity m found wanted)))
        (λ found. whichever P (λ (wanted : List ℕ). just (Integrity m found wanted))
        (λ wanted. one P (Integrity m found wanted) (w.integrity found wanted)))

    unread_holds : Hold P (any (λ (fault : PdcpRefusal). just (BadPdcp m fault)))
    unread_holds =
        whichever P (λ (fault : PdcpRefusal). just (BadPdcp m fault))
        (λ fault. one P (BadPdcp m fault) (w.bad_pdcp fault))

    sdu_holds : Hold P (of_an_sdu m)
    sdu_holds =
        let unread : Sequences = any (λ (fault : PdcpRefusal). just (BadPdcp m fault)) in
        let integrity : Sequences =
        any (λ (found : List ℕ). any (λ (wanted : List ℕ). just (Integrity m found wanted))) in
        either P (many (an_up m))
        (just (Drop m lost.Old) or just (Drop m lost.Range) or just (Drop m lost.Report) or integrity or unread)
        (each P (an_up m) up_holds)
        (either P (just (Drop m lost.Old))
        (just (Drop m lost.Range) or just (Drop m lost.Report) or integrity or unread)
        (one P (Drop m lost.Old) (w.drop lost.Old tt))
        (either P (just (Drop m lost.Range)) (just (Drop m lost.Report) or integrity or unread)
        (one P (Drop m lost.Range) (w.drop lost.Range tt))
        (either P (just (Drop m lost.Report)) (integrity or unread) (one P (Drop m lost.Report) (w.drop lost.Report tt))
        (either P integrity unread integrity_holds unread_holds))))

    pub end_holds : (signalling : Bool) → Hold P (at_the_end signalling m)
    end_holds true = each P (just (Drop m lost.Handover)) (one P (Drop m lost.Handover) (w.drop lost.Handover tt))
    end_holds false = each P (of_an_sdu m) sdu_holds

  -- ---- as it hears

  pub record OfHearing (m : ℕ) : Type 0 where
    pub start : (clock : Clock) → P (Start m clock)
    pub stop : (clock : Clock) → P (Stop m clock)
    pub expired : (clock : Clock) → P (Expired m clock)
    pub up : (sdu : List ℕ) → P (Up m sdu)
    pub fail : (sn : ℕ) → P (Fail m sn)
    pub drop : (why : Lost) → IsOfBearer why → P (Drop m why)
    pub integrity : (found wanted : List ℕ) → P (Integrity m found wanted)
    pub bad_rlc : (fault : RlcRefusal) → P (BadRlc m fault)
    pub bad_pdcp : (fault : PdcpRefusal) → P (BadPdcp m fault)

  module _ (m : ℕ) (w : OfHearing m) where
    pub of_sdus : OfSdus m
    of_sdus = record { up = w.up; drop = w.drop; integrity = w.integrity; bad_pdcp = w.bad_pdcp }

    arrived_sdu_holds : Hold P (of_an_arrived_sdu m)
    arrived_sdu_holds =
        either P (of_an_sdu m) (just (Start m Poll)) (sdu_holds m of_sdus) (one P (Start m Poll) (w.start Poll))

    data_pdu_holds : Hold P (of_a_data_pdu m)
    data_pdu_holds =
        let stops : Sequences = maybe (just (Stop m Reorder)) in
        let starts : Sequences = maybe (just (Start m Reorder)) in
        let sdus : Sequences = many (of_an_arrived_sdu m) in
        either P (just (Drop m lost.Repeat)) (just (Drop m lost.Outside) or just (Drop m lost.Clash) or stops
        then starts then sdus) (one P (Drop m lost.Repeat) (w.drop lost.Repeat tt))
        (either P (just (Drop m lost.Outside)) (just (Drop m lost.Clash) or stops then starts then sdus)
        (one P (Drop m lost.Outside) (w.drop lost.Outside tt))
        (either P (just (Drop m lost.Clash)) (stops then starts then sdus)
        (one P (Drop m lost.Clash) (w.drop lost.Clash tt))
        (behind P stops (starts then sdus) (perhaps P (just (Stop m Reorder)) (one P (Stop m Reorder) (w.stop Reorder)))
        (behind P starts sdus (perhaps P (just (Start m Reorder)) (one P (Start m Reorder) (w.start Reorder)))
        (each P (of_an_arrived_sdu m) arrived_sdu_holds)))))

    fail_holds : Hold P (any (λ (sn : ℕ). just (Fail m sn)))
    fail_holds = whichever P (λ (sn : ℕ). just (Fail m sn)) (λ sn. one P (Fail m sn) (w.fail sn))

    poll_holds : Hold P (maybe (just (Start m Poll)))
    poll_holds = perhaps P (just (Start m Poll)) (one P (Start m Poll) (w.start Poll))

    status_holds : Hold P (of_a_status m)
    status_holds =
        let fails : Sequences = any (λ (sn : ℕ). just (Fail m sn)) in
        let stops : Sequences = maybe (just (Stop m Poll)) in
        let starts : Sequences = maybe (just (Start m Poll)) in
        either P (just (Drop m lost.Ignored)) (fails or stops then starts)
        (one P (Drop m lost.Ignored) (w.drop lost.Ignored tt))
        (either P fails (stops then starts) fail_holds
        (behind P stops starts (perhaps P (just (Stop m Poll)) (one P (Stop m Poll) (w.stop Poll))) poll_holds))

    pub pdu_holds : Hold P (of_a_pdu m)
    pdu_holds =
        let unread : Sequences = any (λ (fault : RlcRefusal). just (BadRlc m fault)) in
        either P unread (of_a_data_pdu m or of_a_status m)
        (whichever P (λ (fault : RlcRefusal). just (BadRlc m fault))
        (λ fault. one P (BadRlc m fault) (w.bad_rlc fault)))
        (either P (of_a_data_pdu m) (of_a_status m) data_pdu_holds status_holds)

    pub expiry_holds : (clock : Clock) → Hold P (of_an_expiry m clock)
    expiry_holds Poll =
        let fails : Sequences = any (λ (sn : ℕ). just (Fail m sn)) in
        behind P (just (Expired m Poll)) (maybe fails) (one P (Expired m Poll) (w.expired Poll))
        (perhaps P fails fail_holds)
    expiry_holds Reorder =
        let starts : Sequences = maybe (just (Start m Reorder)) in
        behind P (just (Expired m Reorder)) (starts then many (of_an_sdu m))
        (one P (Expired m Reorder) (w.expired Reorder))
        (behind P starts (many (of_an_sdu m))
        (perhaps P (just (Start m Reorder)) (one P (Start m Reorder) (w.start Reorder)))
        (each P (of_an_sdu m) (sdu_holds m of_sdus)))
    expiry_holds Prohibit = one P (Expired m Prohibit) (w.expired Prohibit)

    discard_holds : ((len : ℕ) → P (Discard m len)) → Hold P (a_discard m)
    discard_holds d = whichever P (λ (len : ℕ). just (Discard m len)) (λ len. one P (Discard m len) (d len))

    discards_holds : ((len : ℕ) → P (Discard m len)) → Hold P (of_discards m)
    discards_holds d =
        let starts : Sequences = maybe (just (Start m Poll)) in
        behind P (a_discard m) (many (a_discard m) then starts) (discard_holds d)
        (behind P (many (a_discard m)) starts (each P (a_discard m) (discard_holds d)) poll_holds)

    pub tti_holds : ((len : ℕ) → P (Discard m len)) → Hold P (in_a_tti m)
    tti_holds d =
        let expires : Clock → Sequences = λ clock. maybe (of_an_expiry m clock) in
        let late : Sequences = maybe (of_discards m) in
        behind P (expires Poll) (expires Reorder then expires Prohibit then late)
        (perhaps P (of_an_expiry m Poll) (expiry_holds Poll))
        (behind P (expires Reorder) (expires Prohibit then late)
        (perhaps P (of_an_expiry m Reorder) (expiry_holds Reorder))
        (behind P (expires Prohibit) late (perhaps P (of_an_expiry m Prohibit) (expiry_holds Prohibit))
        (perhaps P (of_discards m) (discards_holds d))))

-- ---- what a bearer tells, in a call and as its life ends, it tells of its own channel

abbrev pub IsOn : ℕ → Event → Type 0
IsOn m event = is_on m event ≡ true

abbrev pub AreOn : ℕ → List Event → Type 0
AreOn m events = AllByRecursion (IsOn m) events

same_on : (m : ℕ) → (m == m) ≡ true
same_on m = grind (arith, nat_tests)

writing_on : (m : ℕ) → OfWriting (IsOn m) m
writing_on m = let s = same_on m in
    record {
      send = λ way sn. s;
      start = λ clock. s;
      report = λ fms bitmap. s;
      take = λ count len. s;
      wait = λ why. s;
    }

hearing_on : (m : ℕ) → OfHearing (IsOn m) m
hearing_on m =
    let s = same_on m in
    record {
      start = λ clock. s;
      stop = λ clock. s;
      expired = λ clock. s;
      up = λ sdu. s;
      fail = λ sn. s;
      drop = λ why own. s;
      integrity = λ found wanted. s;
      bad_rlc = λ fault. s;
      bad_pdcp = λ fault. s;
    }

some_hold : (P : Event → Type 0) (m : ℕ) → OfHearing P m → (clock : Clock) (events : Option (List Event))
    → IfSome events (of_an_expiry m clock) → AllByRecursion P (unwrap_or events [])
some_hold P m w clock None p = tt
some_hold P m w clock (Some events) p = expiry_holds P m w clock events p

call_on : (m : ℕ) (f : Flow) (c : BearerCall) → IsBetween m f → AreOn m (tells_in m f c)
call_on m f (Submits sdu) k = tt
call_on m f (Takes share held) k =
    block_holds (IsOn m) m (writing_on m) (told m f share held) ((told_in_order m f k).building share held)
call_on m f (Arrives pdu) k = pdu_holds (IsOn m) m (hearing_on m) _ ((told_in_order m f k).receiving pdu)
call_on m f (Expires clock) k =
    some_hold (IsOn m) m (hearing_on m) clock (expiry f clock) ((told_in_order m f k).expiring clock)
call_on m f Ticks k = tti_holds (IsOn m) m (hearing_on m) (λ len. same_on m) _ (told_in_order m f k).ticking
call_on m f (SetsDiscard ttis) k = tt

pub ticking_on : (m : ℕ) (f : Flow) → IsBetween m f → AreOn m (tells_in m f Ticks)
ticking_on m f k = call_on m f Ticks k

pub stopping_on : (m : ℕ) (f : Flow) → IsBetween m f → AreOn m (stopping f)
stopping_on m f k =
    end_holds (IsOn m) m (of_sdus (IsOn m) m (hearing_on m)) (is_signalling f) (stopping f) (told_in_order m f k).ending

called_between : (m : ℕ) (f : Flow) (c : BearerCall) → IsBetween m f → IsBetween m (called f c)
called_between m f (Submits sdu) k = submits m f sdu k
called_between m f (Takes share held) k = takes m f share held k
called_between m f (Arrives pdu) k = arrives m f pdu k
called_between m f (Expires clock) k = expires m f clock k
called_between m f Ticks k = ticks_of m f k
called_between m f (SetsDiscard ttis) k = discards m f ttis k

-- ---- what is told of a channel

pub told_then : (l : ℕ) (xs ys : List Event) → told_on l (xs ++ ys) ≡ told_on l xs ++ told_on l ys
told_then l xs ys = filter-append (is_on l) xs ys

pub all_on : (m : ℕ) (xs : List Event) → AreOn m xs → told_on m xs ≡ xs
all_on m [] p = refl
all_on m (x ∷ xs) p = ap (λ (b : Bool). cond b (x ∷ told_on m xs) (told_on m xs)) p.0
    ∙ ap (λ (ys : List Event). x ∷ ys) (all_on m xs p.1)

apart : (n m l : ℕ) → (m ≡ l → ⊥) → (n == m) ≡ true → (n == l) ≡ false
apart n m l other e = grind (arith, nat_tests)

off_by : (l m : ℕ) (x : Event) → (m ≡ l → ⊥) → is_on m x ≡ true → is_on l x ≡ false
off_by l m (Take lcid count len) o e = apart lcid m l o e
off_by l m (Report lcid fms bitmap) o e = apart lcid m l o e
off_by l m (Send lcid way sn) o e = apart lcid m l o e
off_by l m (Wait lcid why) o e = apart lcid m l o e
off_by l m (Start lcid clock) o e = apart lcid m l o e
off_by l m (Stop lcid clock) o e = apart lcid m l o e
off_by l m (Expired lcid clock) o e = apart lcid m l o e
off_by l m (Up lcid sdu) o e = apart lcid m l o e
off_by l m (Fail lcid sn) o e = apart lcid m l o e
off_by l m (Drop lcid why) o e = apart lcid m l o e
off_by l m (Integrity lcid found wanted) o e = apart lcid m l o e
off_by l m (BadMac fault) o e = refl
off_by l m (BadRlc lcid fault) o e = apart lcid m l o e
off_by l m (BadPdcp lcid fault) o e = apart lcid m l o e
off_by l m (Discard lcid len) o e = apart lcid m l o e

pub none_on : (l m : ℕ) (xs : List Event) → (m ≡ l → ⊥) → AreOn m xs → told_on l xs ≡ []
none_on l m [] o p = refl
none_on l m (x ∷ xs) o p = ap (λ (b : Bool). cond b (x ∷ told_on l xs) (told_on l xs)) (off_by l m x o p.0)
    ∙ none_on l m xs o p.1

-- a bearer's own channel, and another
pub own_told : (l m : ℕ) (f g : Flow) (c : BearerCall) → m ≡ l → f ≡ g → IsBetween m f
    → told_on l (tells_in m f c) ≡ tells_in l g c
own_told l m f g c same is k =
    ap (λ (n : ℕ). told_on n (tells_in m f c)) (sym same) ∙ all_on m (tells_in m f c) (call_on m f c k)
    ∙ ap (λ (n : ℕ). tells_in n f c) same ∙ ap (λ (h : Flow). tells_in l h c) is

pub other_told : (l m : ℕ) (f : Flow) (c : BearerCall) → (m ≡ l → ⊥) → IsBetween m f → told_on l (tells_in m f c) ≡ []
other_told l m f c other k = none_on l m (tells_in m f c) other (call_on m f c k)

pub tells_more : (l : ℕ) (f : Flow) (cs ds : List BearerCall)
    → tells_over l f (cs ++ ds) ≡ tells_over l f cs ++ tells_over l (after_all f cs) ds
tells_more l f [] ds = refl
tells_more l f (c ∷ cs) ds =
    ap (λ (events : List Event). tells_in l f c ++ events) (tells_more l (called f c) cs ds)
    ∙ sym (append_assoc (tells_in l f c) (tells_over l (called f c) cs) (tells_over l (after_all (called f c) cs) ds))

-- ---- what is picked from the events of a channel

module _ {X : Type 0} (pick : ℕ → Event → List X) (off : (l : ℕ) (x : Event) → is_on l x ≡ false → pick l x ≡ []) where
  abbrev picked : ℕ → List Event → List X
  picked l xs = flat_map (pick l) xs

  first_picked : (b : Bool) (l : ℕ) (x : Event) (xs : List Event) → is_on l x ≡ b
      → picked l (cond b (x ∷ xs) xs) ≡ pick l x ++ picked l xs
  first_picked true l x xs e = refl
  first_picked false l x xs e = ap (λ (found : List X). found ++ picked l xs) (sym (off l x e))

  picked_told : (l : ℕ) (xs : List Event) → picked l (told_on l xs) ≡ picked l xs
  picked_told l [] = refl
  picked_told l (x ∷ xs) = first_picked (is_on l x) l x (told_on l xs) refl
      ∙ ap (λ (found : List X). pick l x ++ found) (picked_told l xs)

  -- what is told of the channel says it
  pub picked_as : (l : ℕ) (xs ys : List Event) → told_on l xs ≡ ys → picked l xs ≡ picked l ys
  picked_as l xs ys e = sym (picked_told l xs) ∙ ap (picked l) e

  none_picked : (l : ℕ) (xs : List Event) → AllByRecursion (λ x. pick l x ≡ []) xs → picked l xs ≡ []
  none_picked l [] p = refl
  none_picked l (x ∷ xs) p = ap (λ (found : List X). found ++ picked l xs) p.0 ∙ none_picked l xs p.1

  module _ (of_call : ℕ → Flow → BearerCall → List X) (is : (l : ℕ) (f : Flow) (c : BearerCall) → IsBetween l f
      → picked l (tells_in l f c) ≡ of_call l f c) where
    pub picked_over : (l : ℕ) (f : Flow) (cs : List BearerCall) → IsBetween l f
        → picked l (tells_over l f cs) ≡ of_calls of_call l f cs
    picked_over l f [] k = refl
    picked_over l f (c ∷ cs) k =
        flat_map-append (pick l) (tells_in l f c) (tells_over l (called f c) cs)
        ∙ ap (λ (found : List X). found ++ picked l (tells_over l (called f c) cs)) (is l f c k)
        ∙ ap (λ (found : List X). of_call l f c ++ found) (picked_over l (called f c) cs (called_between l f c k))

-- ---- what goes up

up_off : (l : ℕ) (x : Event) → is_on l x ≡ false → up_on l x ≡ []
up_off l (Up lcid sdu) e = ap (λ (b : Bool). if b then sdu ∷ [] else []) e
up_off l (Take lcid count len) e = refl
up_off l (Report lcid fms bitmap) e = refl
up_off l (Send lcid way sn) e = refl
up_off l (Wait lcid why) e = refl
up_off l (Start lcid clock) e = refl
up_off l (Stop lcid clock) e = refl
up_off l (Expired lcid clock) e = refl
up_off l (Fail lcid sn) e = refl
up_off l (Drop lcid why) e = refl
up_off l (Integrity lcid found wanted) e = refl
up_off l (BadMac fault) e = refl
up_off l (BadRlc lcid fault) e = refl
up_off l (BadPdcp lcid fault) e = refl
up_off l (Discard lcid len) e = refl

writing_up : (l m : ℕ) → OfWriting (λ x. up_on l x ≡ []) m
writing_up l m = record {
  send = λ way sn. refl;
  start = λ clock. refl;
  report = λ fms bitmap. refl;
  take = λ count len. refl;
  wait = λ why. refl;
}

call_up : (l : ℕ) (f : Flow) (c : BearerCall) → IsBetween l f → ups_on l (tells_in l f c) ≡ goes_up_in l f c
call_up l f (Submits sdu) k = refl
call_up l f (Takes share held) k =
    none_picked up_on up_off l (told l f share held)
    (block_holds (λ x. up_on l x ≡ []) l (writing_up l l) (told l f share held)
    ((told_in_order l f k).building share held))
call_up l f (Arrives pdu) k = refl
call_up l f (Expires clock) k = refl
call_up l f Ticks k = refl
call_up l f (SetsDiscard ttis) k = refl

pub ups_as : (l : ℕ) (xs ys : List Event) → told_on l xs ≡ ys → ups_on l xs ≡ ups_on l ys
ups_as l xs ys e = picked_as up_on up_off l xs ys e

pub ups_over : (l : ℕ) (f : Flow) (cs : List BearerCall) (xs : List Event) → IsBetween l f
    → told_on l xs ≡ tells_over l f cs → ups_on l xs ≡ go_up_over l f cs
ups_over l f cs xs k e = ups_as l xs (tells_over l f cs) e ∙ picked_over up_on up_off goes_up_in call_up l f cs k

-- ---- what is discarded

discard_off : (l : ℕ) (x : Event) → is_on l x ≡ false → discards_in l x ≡ []
discard_off l (Discard lcid len) e = ap (λ (b : Bool). if b then len ∷ [] else []) e
discard_off l (Up lcid sdu) e = refl
discard_off l (Take lcid count len) e = refl
discard_off l (Report lcid fms bitmap) e = refl
discard_off l (Send lcid way sn) e = refl
discard_off l (Wait lcid why) e = refl
discard_off l (Start lcid clock) e = refl
discard_off l (Stop lcid clock) e = refl
discard_off l (Expired lcid clock) e = refl
discard_off l (Fail lcid sn) e = refl
discard_off l (Drop lcid why) e = refl
discard_off l (Integrity lcid found wanted) e = refl
discard_off l (BadMac fault) e = refl
discard_off l (BadRlc lcid fault) e = refl
discard_off l (BadPdcp lcid fault) e = refl

abbrev DiscardsNone : ℕ → Event → Type 0
DiscardsNone l x = discards_in l x ≡ []

writing_discards : (l m : ℕ) → OfWriting (DiscardsNone l) m
writing_discards l m = record {
  send = λ way sn. refl;
  start = λ clock. refl;
  report = λ fms bitmap. refl;
  take = λ count len. refl;
  wait = λ why. refl;
}

hearing_discards : (l m : ℕ) → OfHearing (DiscardsNone l) m
hearing_discards l m = record {
  start = λ clock. refl;
  stop = λ clock. refl;
  expired = λ clock. refl;
  up = λ sdu. refl;
  fail = λ sn. refl;
  drop = λ why own. refl;
  integrity = λ found wanted. refl;
  bad_rlc = λ fault. refl;
  bad_pdcp = λ fault. refl;
}

none_discarded : (l : ℕ) (xs : List Event) → AllByRecursion (DiscardsNone l) xs → discards_on l xs ≡ []
none_discarded l xs p = none_picked discards_in discard_off l xs p

call_discards : (l : ℕ) (f : Flow) (c : BearerCall) → IsBetween l f
    → discards_on l (tells_in l f c) ≡ discarded_in l f c
call_discards l f (Submits sdu) k = refl
call_discards l f (Takes share held) k =
    none_discarded l (told l f share held)
    (block_holds (DiscardsNone l) l (writing_discards l l) (told l f share held)
    ((told_in_order l f k).building share held))
call_discards l f (Arrives pdu) k =
    none_discarded l _ (pdu_holds (DiscardsNone l) l (hearing_discards l l) _ ((told_in_order l f k).receiving pdu))
call_discards l f (Expires clock) k =
    none_discarded l (unwrap_or (expiry f clock) [])
    (some_hold (DiscardsNone l) l (hearing_discards l l) clock (expiry f clock)
    ((told_in_order l f k).expiring clock))
call_discards l f Ticks k = refl
call_discards l f (SetsDiscard ttis) k = refl

pub discards_over : (l : ℕ) (f : Flow) (cs : List BearerCall) (xs : List Event) → IsBetween l f
    → told_on l xs ≡ tells_over l f cs → discards_on l xs ≡ discarded_over l f cs
discards_over l f cs xs k e = picked_as discards_in discard_off l xs (tells_over l f cs) e
    ∙ picked_over discards_in discard_off discarded_in call_discards l f cs k

pub end_discards : (l : ℕ) (f : Flow) (xs : List Event) → IsBetween l f → told_on l xs ≡ stopping f
    → discards_on l xs ≡ []
end_discards l f xs k e =
    picked_as discards_in discard_off l xs (stopping f) e
    ∙ none_discarded l (stopping f)
    (end_holds (DiscardsNone l) l (of_sdus (DiscardsNone l) l (hearing_discards l l)) (is_signalling f) (stopping f)
    (told_in_order l f k).ending)

-- ---- what nothing is told of as a bearer hears

module _ {X : Type 0} (pick : ℕ → Event → List X) (off : (l : ℕ) (x : Event) → is_on l x ≡ false
    → pick l x ≡ []) (l : ℕ) (f : Flow) (k : IsBetween l f) (w : OfHearing (λ x. pick l x ≡ []) l) where
  pub none_arriving : (pdu : List ℕ) → flat_map (pick l) (tells_in l f (Arrives pdu)) ≡ []
  none_arriving pdu =
      none_picked pick off l _ (pdu_holds (λ x. pick l x ≡ []) l w _ ((told_in_order l f k).receiving pdu))

  pub none_expiring : (clock : Clock) → flat_map (pick l) (tells_in l f (Expires clock)) ≡ []
  none_expiring clock =
      none_picked pick off l _
      (some_hold (λ x. pick l x ≡ []) l w clock (expiry f clock) ((told_in_order l f k).expiring clock))

  pub none_ticking : ((len : ℕ) → pick l (Discard l len) ≡ []) → flat_map (pick l) (tells_in l f Ticks) ≡ []
  none_ticking late =
      none_picked pick off l _ (tti_holds (λ x. pick l x ≡ []) l w late _ (told_in_order l f k).ticking)

  pub none_ending : flat_map (pick l) (stopping f) ≡ []
  none_ending =
      none_picked pick off l (stopping f)
      (end_holds (λ x. pick l x ≡ []) l (of_sdus (λ x. pick l x ≡ []) l w) (is_signalling f) (stopping f)
      (told_in_order l f k).ending)
