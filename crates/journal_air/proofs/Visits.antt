-- What a journal tells of a process in a TTI, as one visit of its past.
use Rattle.std.proofs.Common.{◌≡◌, ◌≤◌, ℕ, ◌%◌, Bool, true, false, not, ◌&&◌, ◌||◌, ◌==◌, if◌then◌else◌}
use Rattle.std.proofs.Common.{Option, Some, None, is_some, unwrap_or, List, [], ◌∷◌, refl, ap, sym, subst, ◌∙◌, arith}
use Rattle.std.proofs.lemmas.Bool.{and_parts, and_from, eqb-true, eq-eqb, not-true}
use Rattle.std.proofs.lemmas.Bool.Decides.{nat_tests}
use Rattle.std.proofs.lemmas.Slice.Eq.{bytes_eq-Decides}
use Rattle.std.specs.Str.{bytes_eq}
use Rattle.air_record.specs.declared.record.Arrived.{Arrived}
use Rattle.harq.specs.declared.sender.Order.{Order}
use Rattle.harq.specs.declared.sender.Visit.{Visit}
use Rattle.harq.specs.declared.sender.Visit.TheVariants.{New, Resend, Silent as Nothing}
use Rattle.harq.specs.Sending.{Sending, after_visit, visit_answer, held_of}
use Rattle.harq.specs.SendHistory.{Deed, Waited, Built, Resent, deed_by, deed, IsResending}
use Rattle.harq.specs.SendHistory.{IsRight, is_down}
use Rattle.harq.specs.ReceiveHistory.{is_intact}
use Rattle.promises.specs.Heard.{Flight, idle, sleeps, lands, deeds_of}
use Rattle.promises.specs.Heard.{sent as sent_out}
use Rattle.journal_air.specs.Told.{BlockTold, AirTold}
use Rattle.journal_air.specs.Ends.{turn_of, is_sent_by, is_sent}
use Rattle.journal_air.proofs.Senders.{Sends, is_new, is_resend, deed_is_right}

-- ---- the visit

abbrev pub dozing : Bool → Flight → Flight
dozing true f = sleeps f
dozing false f = f

abbrev pub sending : Option BlockTold → Flight → Flight
sending None f = f
sending (Some b) f = sent_out b.fresh b.version b.octets f

abbrev pub landing : Option AirTold → Flight → Flight
landing None f = f
landing (Some a) f = lands a.what a.heard f

abbrev pub flight_of : Bool → Bool → Option BlockTold → Option AirTold → Flight
flight_of lost asleep block air = landing air (sending block (dozing asleep (idle lost)))

-- a past with one visit more
abbrev pub with_flight : ℕ → Flight → (ℕ → List Flight) → ℕ → List Flight
with_flight t f fl p = if p == t % 8 then f ∷ fl p else fl p

pub flight_here : (t : ℕ) (f : Flight) (fl : ℕ → List Flight) → with_flight t f fl (t % 8) ≡ f ∷ fl (t % 8)
flight_here t f fl = let test : (t % 8 == t % 8) ≡ true = grind (arith, nat_tests) in rw test refl

pub idle_deed : (lost asleep : Bool) → (flight_of lost asleep None None).deed ≡ Waited
idle_deed lost true = refl
idle_deed lost false = refl

pub idle_came : (lost asleep : Bool) → (flight_of lost asleep None None).came ≡ None
idle_came lost true = refl
idle_came lost false = refl

pub lone_deed : (lost asleep : Bool) (what : Arrived) (heard : Option Bool)
    → (lands what heard (dozing asleep (idle lost))).deed ≡ Waited
lone_deed lost true what None = refl
lone_deed lost true what (Some good) = refl
lone_deed lost false what None = refl
lone_deed lost false what (Some good) = refl

pub lone_missed : (lost asleep : Bool) (what : Arrived) (heard : Option Bool)
    → (lands what heard (dozing asleep (idle lost))).missed ≡ (asleep || lost)
lone_missed lost true what heard = refl
lone_missed lost false what heard = refl

-- the deed that a block tells
abbrev pub told_deed : Bool → ℕ → List ℕ → Bool → Deed
told_deed true version octets good = Built octets good
told_deed false version octets good = Resent version octets good

pub pair_deed : (lost asleep fresh : Bool) (version : ℕ) (octets : List ℕ) (what : Arrived) (heard : Option Bool)
    → is_some heard ≡ true
    → (lands what heard (sent_out fresh version octets (dozing asleep (idle lost)))).deed
    ≡ told_deed fresh version octets (is_intact heard)
pair_deed lost asleep true version octets what None e = absurd cc
pair_deed lost asleep true version octets what (Some good) e = refl
pair_deed lost asleep false version octets what None e = absurd cc
pair_deed lost asleep false version octets what (Some good) e = refl

pub pair_missed : (lost asleep fresh : Bool) (version : ℕ) (octets : List ℕ) (what : Arrived) (heard : Option Bool)
    → (lands what heard (sent_out fresh version octets (dozing asleep (idle lost)))).missed ≡ (asleep || lost)
pair_missed lost true true version octets what heard = refl
pair_missed lost true false version octets what heard = refl
pair_missed lost false true version octets what heard = refl
pair_missed lost false false version octets what heard = refl

-- ---- the deeds of a past

pub deeds_with : (test : Bool) (f : Flight) (d : Deed) (l : List Flight) → f.deed ≡ d
    → deeds_of (if test then f ∷ l else l) ≡ (if test then d ∷ deeds_of l else deeds_of l)
deeds_with true f d l e = ap (λ (x : Deed). x ∷ deeds_of l) e
deeds_with false f d l e = refl

-- ---- a block that is sent as it is told

pub octets_same : (a b : List ℕ) → bytes_eq a b ≡ true → a ≡ b
octets_same a b e = (bytes_eq-Decides a b).0 e

pub same_octets : (a b : List ℕ) → a ≡ b → bytes_eq a b ≡ true
same_octets a b e = (bytes_eq-Decides a b).1 e

-- what the sender does is what is told
deed_as_told : (v : Visit) (held : Option (List ℕ)) (t : ℕ) (order : Order) (b : BlockTold) (a : AirTold)
    → is_sent_by v held b ≡ true
    → deed_by v (turn_of t order b a) held ≡ told_deed b.fresh b.version b.octets (is_intact a.heard)
deed_as_told New held t order b a e = rw (and_parts b.fresh (b.version == 0) e).0 refl
deed_as_told (Resend version) held t order b a e =
    let parts = and_parts (not b.fresh && (b.version == version)) (bytes_eq (unwrap_or held []) b.octets) e in
    let front = and_parts (not b.fresh) (b.version == version) parts.0 in
    let again : b.fresh ≡ false = not-true b.fresh front.0 in
    let octets = octets_same (unwrap_or held []) b.octets parts.1 in
    let version_is : b.version ≡ version = eqb-true b.version version front.1 in
    rw again
    (ap (λ (o : List ℕ). Resent version o (is_intact a.heard)) octets
    ∙ ap (λ (n : ℕ). Resent n b.octets (is_intact a.heard)) (sym version_is))
deed_as_told Nothing held t order b a e = absurd cc

pub deed_is_told : (t : ℕ) (order : Order) (b : BlockTold) (a : AirTold) (s : Sending) → is_sent t order b s ≡ true
    → deed (turn_of t order b a) s ≡ told_deed b.fresh b.version b.octets (is_intact a.heard)
deed_is_told t order b a s e =
    deed_as_told (visit_answer s t order) (held_of (after_visit s t order) (t % 8)) t order b a
    (and_parts (b.process == t % 8) (is_sent_by (visit_answer s t order) (held_of (after_visit s t order)
    (t % 8)) b) e).1

pub record IsOfKind (fresh : Bool) (v : Visit) : Type 0 where
  pub new_is : is_new v ≡ fresh
  pub resend_is : is_resend v ≡ not fresh

kind_of : (v : Visit) (held : Option (List ℕ)) (b : BlockTold) → is_sent_by v held b ≡ true → IsOfKind b.fresh v
kind_of New held b e =
    let new = (and_parts b.fresh (b.version == 0) e).0 in
    record { new_is = sym new; resend_is = sym (ap not new) }
kind_of (Resend version) held b e =
    let parts = and_parts (not b.fresh && (b.version == version)) (bytes_eq (unwrap_or held []) b.octets) e in
    let again = (and_parts (not b.fresh) (b.version == version) parts.0).0 in
    record { new_is = sym (not-true b.fresh again); resend_is = sym again }
kind_of Nothing held b e = absurd cc

pub sent_kind : (t : ℕ) (order : Order) (b : BlockTold) (s : Sending) → is_sent t order b s ≡ true
    → IsOfKind b.fresh (visit_answer s t order)
sent_kind t order b s e =
    kind_of (visit_answer s t order) (held_of (after_visit s t order) (t % 8)) b
    (and_parts (b.process == t % 8) (is_sent_by (visit_answer s t order) (held_of (after_visit s t order)
    (t % 8)) b) e).1

pub zero_version : (t : ℕ) (order : Order) (b : BlockTold) (s : Sending) → is_sent t order b s ≡ true
    → b.fresh ≡ true → b.version ≡ 0
zero_version t order b s e fresh =
    by_visit (visit_answer s t order) (held_of (after_visit s t order) (t % 8))
    (and_parts (b.process == t % 8) (is_sent_by (visit_answer s t order) (held_of (after_visit s t order)
    (t % 8)) b) e).1
  where
    by_visit : (v : Visit) (held : Option (List ℕ)) → is_sent_by v held b ≡ true → b.version ≡ 0
    by_visit New held h = eqb-true b.version 0 (and_parts b.fresh (b.version == 0) h).1
    by_visit (Resend version) held h =
        let parts = and_parts (not b.fresh && (b.version == version)) (bytes_eq (unwrap_or held []) b.octets) h in
        let again : b.fresh ≡ false =
        not-true b.fresh (and_parts (not b.fresh) (b.version == version) parts.0).0 in
        absurd cc
    by_visit Nothing held h = absurd cc

-- and what is told rightly is sent so
told_is_sent : (v : Visit) (held : Option (List ℕ)) (fresh : Bool) (b : BlockTold) → b.fresh ≡ fresh
    → IsOfKind fresh v → (fresh ≡ true → b.version ≡ 0)
    → ((version : ℕ) → v ≡ Resend version → fresh ≡ false
    → (b.version ≡ version) × (unwrap_or held [] ≡ b.octets))
    → is_sent_by v held b ≡ true
told_is_sent New held true b f k zero again = and_from b.fresh (b.version == 0) f (eq-eqb b.version 0 (zero refl))
told_is_sent New held false b f k zero again = let e = k.new_is in absurd cc
told_is_sent (Resend version) held true b f k zero again = let e = k.resend_is in absurd cc
told_is_sent (Resend version) held false b f k zero again =
    let both = again version refl refl in
    and_from (not b.fresh && (b.version == version)) (bytes_eq (unwrap_or held []) b.octets)
    (and_from (not b.fresh) (b.version == version) (ap not f) (eq-eqb b.version version both.0))
    (same_octets (unwrap_or held []) b.octets both.1)
told_is_sent Nothing held true b f k zero again = let e = k.new_is in absurd cc
told_is_sent Nothing held false b f k zero again = let e = k.resend_is in absurd cc

some_inj : (a b : List ℕ) → Some a ≡ Some b → a ≡ b
some_inj a b e = cc

-- the sender's own resending, and the one that is told
resent_same : (maximum : ℕ) (v w : ℕ) (o u : List ℕ) (past : List Deed) → IsResending maximum v o past
    → IsResending maximum w u past → (w ≡ v) × (o ≡ u)
resent_same maximum v w o u past h k =
    (k.version_is ∙ sym h.version_is, some_inj o u (sym h.same_octets ∙ k.same_octets))

pub sent_as_told : (down : Bool) (maximum : ℕ) (s : Sending) (past : ℕ → List Deed) (t : ℕ) (order : Order)
    (b : BlockTold) (a : AirTold) → 1 ≤ maximum → (down ≡ true → is_down order ≡ true)
    → Sends down maximum s past → b.process ≡ t % 8 → (b.fresh ≡ true → b.version ≡ 0)
    → IsOfKind b.fresh (visit_answer s t order)
    → (b.fresh ≡ false → IsResending maximum b.version b.octets (past (t % 8)))
    → is_sent t order b s ≡ true
sent_as_told down maximum s past t order b a some free h process zero kind resent =
    let held = held_of (after_visit s t order) (t % 8) in
    and_from (b.process == t % 8) (is_sent_by (visit_answer s t order) held b) (eq-eqb b.process (t % 8) process)
    (told_is_sent (visit_answer s t order) held b.fresh b refl kind zero (λ version e again.
    let own = deed_is_right down maximum s past (turn_of t order b a) some free h in
    let as_sent : IsRight maximum (Resent version (unwrap_or held []) (is_intact a.heard) ∷ past (t % 8)) =
    subst (λ (v : Visit). IsRight maximum (deed_by v (turn_of t order b a) held ∷ past (t % 8))) e own in
    resent_same maximum version b.version (unwrap_or held []) b.octets (past (t % 8)) as_sent.0 (resent again)))
