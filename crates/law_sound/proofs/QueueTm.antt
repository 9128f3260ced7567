-- A transparent bearer beside the flow that it sends, in each of its calls: the first SDU that waits is the next PDU,
-- as it is.
use Rattle.std.proofs.Common.{◌≡◌, ℕ, ◌+◌, ◌-◌, ◌==◌, nat_le, nat_lt, Bool, true, false, if◌then◌else◌, List, [], ◌∷◌}
use Rattle.std.proofs.Common.{◌++◌, length, map, Option, Some, None, refl, ap, sym, subst, ◌∙◌, arith}
use Rattle.std.specs.List.{AllByRecursion}
use Rattle.std.proofs.lemmas.Bool.{and_from, eq-eqb}
use Rattle.std.proofs.lemmas.Bool.Decides.{nat_tests}
use Rattle.bearer.specs.Hearing.{arriving, arrived, expiry, expired, ticking, ticked, with_discard}
use Rattle.bearer.specs.Submitting.{refusal as flow_refusal, submitted as flow_submitted_to}
use Rattle.bearer.specs.Taking.{pdus, told, after as flow_after}
use Rattle.bearer.specs.Transparent.{data_told}
use Rattle.bearer.specs.declared.flow.Flow.TheVariants.{Tm}
use Rattle.bearer_pdcp.specs.Telling.{pdus_of}
use Rattle.eps_sec.specs.declared.Keys.{Keys}
use Rattle.l2_bits.specs.declared.fault.SubmitRefusal.TheVariants.{Empty, TooLong, Full}
use Rattle.l2_types.specs.declared.limits.TheConstants.{GREATEST_SDU, MOST_WAITING}
use Rattle.pdu_show.specs.declared.kinds.Layout.{Layout}
use Rattle.pdu_show.specs.declared.kinds.Layout.TheVariants as layouts
use Rattle.rlc_pdu.specs.declared.outcome.Taken.{Taken}
use Rattle.rlc_pdu.specs.declared.outcome.Taken.TheVariants as taken
use Rattle.rlc_um.specs.Transparent.{Transparent, refusal, submitted, taken as tm_taken, after_take, first_of}
use Rattle.rlc_um.specs.Transparent.{behind_first, nothing_submitted}
use Rattle.journal_sent.specs.RightSent.{Flow, IsSdu, IsCountOf, SentAs, ShapedAs}
use Rattle.journal_sent.specs.SentFlows.{Cover, with_covered, is_data, is_first, gives_first, flow_taken}
use Rattle.journal_sent.specs.SentFlows.{flow_submitted, first_of as first_waiting, judges_by, cover_renewed}
use Rattle.journal_sent.specs.SentFlows.{waiting_behind, flow_renewed}
use Rattle.journal_sent.specs.SentPdus.{histories}
use Rattle.law_bearer.specs.AnyBearer.Calls.{Call as BearerCall, Submit, Take, Arrive, Expire, Tick, SetDiscard}
use Rattle.law_bearer.proofs.AnyBearer.Between.{IsBetween}
use Rattle.law_bearer.proofs.AnyBearer.SenderCalls.{all_then}
use Rattle.law_sent.specs.Channels.{SentPdu, AreRight, behind_one, behind_all}
use Rattle.law_sound.proofs.QueueBeside.{IsTransparentBy, AreRightHere, queue_over, IsTakenIn, KeepsOne, ArePdusOf}
use Rattle.law_sound.proofs.QueueBeside.{CanWrite, WritesSo}
use Rattle.law_sound.proofs.SentBetween.{IsRightPdu}
use Rattle.law_sound.proofs.SentStreams.{sized}

-- ---- an SDU is submitted

accepted_by : (a b c : Bool)
    → (if a then Some Empty else if b then Some TooLong else if c then Some Full else None) ≡ None
    → (a ≡ false) × (b ≡ false)
accepted_by true b c e = absurd cc
accepted_by false true c e = absurd cc
accepted_by false false c e = (refl, refl)

-- it has as many octets as one may have
accepted_size : (b : Transparent) (sdu : List ℕ) → refusal b sdu ≡ None → IsSdu sdu
unfolding refusal
accepted_size b sdu e =
    let h = accepted_by (length sdu == 0) (nat_lt GREATEST_SDU (length sdu))
    (nat_le MOST_WAITING (length b.waiting)) e in
    (grind (arith, nat_tests, h.0), grind (arith, nat_tests, h.1))

waits_on : (b : Transparent) (sdu : List ℕ) (f : Flow) → IsSdu sdu → IsTransparentBy b f
    → IsTransparentBy (submitted b sdu) (flow_submitted sdu f)
waits_on b sdu f size h =
    subst (λ (g : Flow). IsTransparentBy (submitted b sdu) g)
    (sym (ap (λ (a : Layout). if is_data a then f else record f { waiting = f.waiting ++ sdu ∷ [] }) h.layout_is))
    (record {
      layout_is = h.layout_is;
      cover_is = h.cover_is;
      waiting_is = ap (λ (ws : List (List ℕ)). ws ++ sdu ∷ []) h.waiting_is;
      sizes = all_then IsSdu f.waiting (sdu ∷ []) h.sizes (size, tt);
    })

-- ---- a call in which nothing is written

-- a PDU that arrives is handed up, or can't be read
arrival_keeps : (l : ℕ) (b : Transparent) (pdu : List ℕ) (empty : Bool) (f : Flow) → IsTransparentBy b f
    → (length pdu == 0) ≡ empty → KeepsOne l (Tm b) (Arrive pdu) f
unfolding arriving arrived
arrival_keeps l b pdu true f h e = record { right = rw e (tt, tt); behind = rw e h }
arrival_keeps l b pdu false f h e = record { right = rw e (tt, tt); behind = rw e h }

pub tm_keeps : (l : ℕ) (b : Transparent) (c : BearerCall) (f : Flow) → IsBetween l (Tm b) → IsTakenIn (Tm b) c
    → IsTransparentBy b f → KeepsOne l (Tm b) c f
unfolding flow_refusal flow_submitted_to expiry expired ticking ticked with_discard
tm_keeps l b (Submit sdu) f between accepted h =
    record { right = tt; behind = waits_on b sdu f (accepted_size b sdu accepted) h }
tm_keeps l b (Take share held) f between accepted h = absurd accepted
tm_keeps l b (Arrive pdu) f between accepted h = arrival_keeps l b pdu (length pdu == 0) f h refl
tm_keeps l b (Expire clock) f between accepted h = record { right = tt; behind = h }
tm_keeps l b Tick f between accepted h = record { right = tt; behind = h }
tm_keeps l b (SetDiscard ttis) f between accepted h = record { right = tt; behind = h }

-- ---- it writes the first that waits, or nothing

-- the flow behind that SDU
taken_is : (sdu : List ℕ) (more : List (List ℕ)) (f : Flow) → f.layout ≡ layouts.Tm → f.cover ≡ None
    → f.waiting ≡ sdu ∷ more → IsSdu sdu
    → flow_taken histories None (length sdu) None f ≡ record f { waiting = more; given = f.given + 1 }
taken_is sdu more f layout cover waits size =
    let length_is = eq-eqb (length sdu) (length sdu) refl in
    let covers : is_first None (length sdu) (sdu ∷ more) (record f { cover = None }) ≡ true =
    and_from _ _ (sized sdu size) (and_from (length sdu == length sdu) true length_is refl) in
    let first : is_first None (length sdu) (sdu ∷ more) f ≡ true =
    ap (λ (c : Option Cover). is_first None (length sdu) (sdu ∷ more) (record f { cover = c })) cover ∙ covers in
    ap (λ (a : Layout). if is_data a then f
    else if is_first None (length sdu) f.waiting f then gives_first histories f.waiting f else f) layout
    ∙ ap (λ (ws : List (List ℕ)). if is_first None (length sdu) ws f then gives_first histories ws f else f) waits
    ∙ ap (λ (b : Bool). if b then gives_first histories (sdu ∷ more) f else f) first
    ∙ ap (λ (c : Option Cover). record f {
      waiting = more;
      given = f.given + 1;
      stream = with_covered histories c f.given sdu f.stream;
    }) cover

-- what a bearer answers, with what it leaves
record Writes (l : ℕ) (t : Taken) (d : Transparent) (acked : ℕ → Bool) (ps : List SentPdu) (f : Flow) : Type 0 where
  right : AreRightHere (data_told l t) f
  pdus_right : AreRight IsRightPdu acked ps (queue_over (data_told l t) f)
  behind : IsTransparentBy d (behind_all acked ps (queue_over (data_told l t) f))

-- the PDUs of an answer
record AreOf (t : Taken) (f : Flow) (ps : List SentPdu) : Type 0 where
  octets_are : map (λ (p : SentPdu). p.octets) ps ≡ pdus_of t
  passed_are : AllByRecursion (λ (p : SentPdu). p.passed ≡ first_waiting f.waiting) ps

one_right : (acked : ℕ → Bool) (p : SentPdu) (f : Flow) → f.layout ≡ layouts.Tm → p.passed ≡ Some p.octets
    → IsRightPdu acked p.how p.passed p.octets f
one_right acked p f e passed =
    subst (λ (a : Layout). SentAs a acked p.how p.passed p.octets f × ShapedAs a acked p.how p.octets f) (sym e)
    (passed, tt)

one_leaves : (acked : ℕ → Bool) (p : SentPdu) (f : Flow) → f.layout ≡ layouts.Tm → behind_one acked p f ≡ f
one_leaves acked p f e = ap (λ (a : Layout). (judges_by histories a acked p.how p.passed p.octets f).flow) e

none_written : (l : ℕ) (t : Taken) (d : Transparent) (acked : ℕ → Bool) (ps : List SentPdu) (f : Flow)
    → map (λ (p : SentPdu). p.octets) ps ≡ [] → AreRightHere (data_told l t) f → queue_over (data_told l t) f ≡ f
    → IsTransparentBy d f → Writes l t d acked ps f
none_written l t d acked [] f none right same h =
    record { right = right; pdus_right = tt; behind = subst (λ (g : Flow). IsTransparentBy d g) (sym same) h }
none_written l t d acked (p ∷ ps) f none right same h = absurd cc

-- one that fits
passed_on : (l next size : ℕ) (sdu : List ℕ) (more : List (List ℕ)) (acked : ℕ → Bool) (ps : List SentPdu) (f : Flow)
    → IsTransparentBy (record { next = next; waiting = sdu ∷ more }) f
    → AreOf (taken.Piece next true false sdu) f ps
    → Writes l (taken.Piece next true false sdu) (record { next = next + 1; waiting = more }) acked ps f
passed_on l next size sdu more acked [] f h are = let none = are.octets_are in absurd cc
passed_on l next size sdu more acked (p ∷ []) f h are =
    let all = are.octets_are in
    let is : p.octets ≡ sdu = cc in
    let waits = h.waiting_is in
    let sizes : AllByRecursion IsSdu (sdu ∷ more) = subst (AllByRecursion IsSdu) waits h.sizes in
    let g : Flow = record f { waiting = more; given = f.given + 1 } in
    let same = sym (taken_is sdu more f h.layout_is h.cover_is waits sizes.0) in
    let passed : p.passed ≡ Some p.octets =
    are.passed_are.0 ∙ ap first_waiting waits ∙ ap (λ (x : List ℕ). Some x) (sym is) in
    let left : Transparent = record { next = next + 1; waiting = more } in
    record {
      right = (
        record {
          sdu = sdu;
          rest = more;
          first = waits;
          size = sizes.0;
          len_is = refl;
          count_is = subst (λ (c : Option Cover). IsCountOf c f.given None) (sym h.cover_is) refl;
        },
        (tt, tt),
      );
      pdus_right = subst (λ (k : Flow). AreRight IsRightPdu acked (p ∷ []) k) same
          (one_right acked p g h.layout_is passed, tt);
      behind = subst (λ (k : Flow). IsTransparentBy left (behind_one acked p k)) same
          (subst (IsTransparentBy left) (sym (one_leaves acked p g h.layout_is))
          (record { layout_is = h.layout_is; cover_is = h.cover_is; waiting_is = refl; sizes = sizes.1 }));
    }
passed_on l next size sdu more acked (p ∷ q ∷ ps) f h are = let none = are.octets_are in absurd cc

first_writes : (l next size : ℕ) (ws : List (List ℕ)) (acked : ℕ → Bool) (ps : List SentPdu) (f : Flow)
    → IsTransparentBy (record { next = next; waiting = ws }) f → AreOf (first_of next size ws) f ps
    → Writes l (first_of next size ws) (behind_first next size ws) acked ps f
first_writes l next size [] acked ps f h are = none_written l taken.Idle _ acked ps f are.octets_are tt refl h
first_writes l next size (sdu ∷ more) acked ps f h are = by (nat_lt size (length sdu)) are
  where
    by : (large : Bool) → AreOf (if large then taken.Small else taken.Piece next true false sdu) f ps
        → Writes l (if large then taken.Small else taken.Piece next true false sdu)
        (if large then record { next = next; waiting = sdu ∷ more } else record { next = next + 1; waiting = more })
        acked ps f
    by true of = none_written l taken.Small _ acked ps f of.octets_are (tt, tt) refl h
    by false of = passed_on l next size sdu more acked ps f h of

pub tm_writes : (l : ℕ) (b : Transparent) (share : ℕ) (held : Option ℕ) (acked : ℕ → Bool) (ps : List SentPdu)
    (f : Flow) → CanWrite l (Tm b) share → ArePdusOf l (Tm b) share held f ps → IsTransparentBy b f
    → WritesSo l (Tm b) share held acked ps f
unfolding pdus told flow_after tm_taken after_take
tm_writes l b share held acked ps f can are h =
    let w = first_writes l b.next (share - 3) b.waiting acked ps f h
    (record { octets_are = are.octets_are; passed_are = are.passed_are h.cover_is }) in
    record { right = w.right; pdus_right = w.pdus_right; behind = w.behind }

-- ---- the next life: what waits is dropped

pub tm_restarts : (b : Transparent) (keys : Keys) (f : Flow) → IsTransparentBy b f
    → IsTransparentBy nothing_submitted (flow_renewed histories keys f)
tm_restarts b keys f h =
    let none : waiting_behind f.layout f.waiting ≡ [] =
    ap (λ (a : Layout). waiting_behind a f.waiting) h.layout_is in
    record {
      layout_is = h.layout_is;
      cover_is = ap (cover_renewed keys) h.cover_is;
      waiting_is = none;
      sizes = subst (AllByRecursion IsSdu) (sym none) tt;
    }
