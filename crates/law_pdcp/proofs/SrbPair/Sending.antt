-- What holds of a sender in a life, and what its calls make of it.
use Rattle.std.proofs.Common.{◌≡◌, ◌≢◌, ◌<◌, ◌≤◌, ℕ, ◌+◌, ◌-◌, ◌^◌, Bool, true, false, if◌then◌else◌, List, [], ◌∷◌}
use Rattle.std.proofs.Common.{◌++◌, length, map, take, drop, Option, Some, None, slice_get, length-append, refl, ap}
use Rattle.std.proofs.Common.{sym, ◌∙◌, subst, arith}
use Rattle.std.specs.Prelude.{option_map, nat_lt, nat_le, ◌==◌, ◌&&◌, not}
use Rattle.std.proofs.lemmas.Bool.Decides.{nat_tests}
use Rattle.std.proofs.lemmas.List.{take_all}
use Rattle.l2_bits.specs.declared.fault.SubmitRefusal.TheVariants.{Empty, TooLong, Full, CountEnd}
use Rattle.pdcp_pdu.specs.declared.PdcpKind.{PdcpKind}
use Rattle.pdcp_pdu.specs.declared.PdcpKind.TheVariants.{Srb}
use Rattle.pdcp_sec.specs.Protection.{Protection}
use Rattle.pdcp_tx_store.specs.Given.{Given, settled, with_ack, entry_at, acked_at, trimmed, is_own, first_open}
use Rattle.pdcp_tx_store.specs.Given.{first_unacked}
use Rattle.pdcp_tx_store.specs.declared.given.Entry.{Entry}
use Rattle.pdcp_tx_store.specs.declared.given.Sent.{Sent}
use Rattle.pdcp_tx_store.specs.Waiting.{Waits}
use Rattle.pdcp_tx.specs.declared.sender.Next.{Next}
use Rattle.pdcp_tx.specs.State.{State, Offer, written, offers, owed_offers, again_offer, new_offers, taking, took}
use Rattle.pdcp_tx.specs.State.{took_owed, took_again, took_new, given_new, refusal, submitted, confirmed, moved, low}
use Rattle.pdcp_tx.specs.State.{or_else, after_late, is_late, is_overdue}
use Rattle.pdcp_tx.specs.Runs.{Take}
use Rattle.law_pdcp.proofs.OneEnd.Submitting.{AreNonempty}
use Rattle.law_pdcp.specs.OneEnd.Lives.{takes_new, new_of, new_behind, first_sdu, queue}

-- ---- what holds

-- no SDU is empty
-- a sender that has taken some SDUs in its life
pub record Sends (first : ℕ) (p : Protection) (sdus : List (List ℕ)) (s : State) : Type 0 where
  pub srb : s.kind ≡ Srb
  pub key : s.protection ≡ p
  pub count : s.next ≡ first + length sdus
  pub room : s.next + length s.waiting ≤ 2 ^ 32
  pub wide : 2 ^ 32 ≤ s.bound
  pub owes_none : s.owed ≡ None
  pub none_again : s.again ≡ []
  pub none_given : s.given.entries ≡ []
  pub unset : s.discard ≡ None
  pub some : AreNonempty sdus
  pub waits_some : AreNonempty (queue s)

pub some_more : (xs : List (List ℕ)) (x : List ℕ) → AreNonempty xs → x ≢ [] → AreNonempty (xs ++ x ∷ [])
some_more [] x h some = (some, tt)
some_more (y ∷ xs) x h some = (h.0, some_more xs x h.1 some)

pub queue_more : (ws : List Waits) (w : Waits)
    → map (λ (v : Waits). v.sdu) (ws ++ w ∷ []) ≡ map (λ (v : Waits). v.sdu) ws ++ w.sdu ∷ []
queue_more [] w = refl
queue_more (v ∷ ws) w = ap (λ l. v.sdu ∷ l) (queue_more ws w)

-- ---- an SDU is submitted

refused_by : (a b c d : Bool)
    → (if a then Some Empty
    else (if b then Some TooLong else (if c then Some Full else (if d then Some CountEnd else None)))) ≡ None
    → (a ≡ false) × (d ≡ false)
refused_by true b c d e = absurd cc
refused_by false true c d e = absurd cc
refused_by false false true d e = absurd cc
refused_by false false false true e = absurd cc
refused_by false false false false e = (refl, refl)

accepted : (s : State) (sdu : List ℕ) → refusal s sdu ≡ None
    → ((length sdu == 0) ≡ false) × ((s.next + length s.waiting == 2 ^ 32) ≡ false)
unfolding refusal
accepted s sdu e =
    refused_by (length sdu == 0) (nat_lt 8188 (length sdu)) (nat_le 1024 (length s.waiting))
    (s.next + length s.waiting == 2 ^ 32) e

not_empty : (sdu : List ℕ) → (length sdu == 0) ≡ false → sdu ≢ []
not_empty [] e = absurd cc
not_empty (x ∷ xs) e = λ q. absurd cc

pub submit_sends : (first : ℕ) (p : Protection) (sdus : List (List ℕ)) (s : State) (sdu : List ℕ)
    → refusal s sdu ≡ None → Sends first p sdus s → Sends first p sdus (submitted s sdu)
unfolding submitted
submit_sends first p sdus s sdu e h =
    let w : Waits = record { sdu = sdu; born = s.clock } in
    let can = accepted s sdu e in
    let less : s.next + length s.waiting < 2 ^ 32 = grind (arith, nat_tests, can.1, h.room) in
    record {
      srb = h.srb;
      key = h.key;
      count = h.count;
      room = omega (arith, less, length-append s.waiting (w ∷ []));
      wide = h.wide;
      owes_none = h.owes_none;
      none_again = h.none_again;
      none_given = h.none_given;
      unset = h.unset;
      some = h.some;
      waits_some =
          subst AreNonempty (sym (queue_more s.waiting w))
          (some_more (queue s) sdu h.waits_some (not_empty sdu can.0));
    }

pub submit_queues : (s : State) (sdu : List ℕ) → queue (submitted s sdu) ≡ queue s ++ sdu ∷ []
unfolding submitted
submit_queues s sdu = queue_more s.waiting (record { sdu = sdu; born = s.clock })

-- ---- the first SDU that waits is taken

-- all that wait may be taken
pub all_within : (first : ℕ) (p : Protection) (sdus : List (List ℕ)) (s : State) → Sends first p sdus s
    → take (s.bound - s.next) s.waiting ≡ s.waiting
all_within first p sdus s h = take_all (s.bound - s.next) s.waiting (omega (arith, h.room, h.wide))

abbrev pub with_new : List Waits → State → State
with_new ws s = record s { waiting = ws; next = s.next + 1 }

took_by : (first : ℕ) (p : Protection) (sdus : List (List ℕ)) (s : State) (ws : List Waits) → Sends first p sdus s
    → s.waiting ≡ ws → took s ≡ took_new ws s
unfolding took
took_by first p sdus s ws h q =
    ap (λ l. took_owed l s) h.owes_none ∙ ap (λ l. took_again l s) h.none_again
    ∙ ap (λ l. took_new l s) (all_within first p sdus s h ∙ q)

abbrev offer : State → Offer → Next
offer s x = written s.kind s.protection x.count x.text

pub offers_by : (first : ℕ) (p : Protection) (sdus : List (List ℕ)) (s : State) → Sends first p sdus s
    → offers s ≡ new_offers s.next s.waiting
unfolding offers
offers_by first p sdus s h =
    ap (λ l. owed_offers l ++ map again_offer s.again ++ new_offers s.next (take (s.bound - s.next) s.waiting))
    h.owes_none
    ∙ ap (λ l. map again_offer l ++ new_offers s.next (take (s.bound - s.next) s.waiting)) h.none_again
    ∙ ap (new_offers s.next) (all_within first p sdus s h)

taking_by : (first : ℕ) (p : Protection) (sdus : List (List ℕ)) (s : State) (ws : List Waits) → Sends first p sdus s
    → s.waiting ≡ ws
    → taking s ≡ option_map (offer s) (slice_get (new_offers s.next ws) 0)
unfolding taking
taking_by first p sdus s ws h q =
    ap (λ l. option_map (offer s) (slice_get l 0)) (offers_by first p sdus s h ∙ ap (new_offers s.next) q)

new_by : (first : ℕ) (p : Protection) (sdus : List (List ℕ)) (s : State) (ws : List Waits) → Sends first p sdus s
    → s.waiting ≡ ws → takes_new s Take ≡ first_sdu ws
new_by first p sdus s ws h q = ap (λ l. new_of l s) h.owes_none ∙ ap (λ l. new_behind l s) h.none_again
    ∙ ap first_sdu (all_within first p sdus s h ∙ q)

-- none waits
pub record TakesNone (s : State) : Type 0 where
  pub left : took s ≡ s
  pub gives : taking s ≡ None
  pub news : takes_new s Take ≡ []

pub takes_none : (first : ℕ) (p : Protection) (sdus : List (List ℕ)) (s : State) → Sends first p sdus s
    → s.waiting ≡ [] → TakesNone s
takes_none first p sdus s h q =
    record {
      left = took_by first p sdus s [] h q;
      gives = taking_by first p sdus s [] h q;
      news = new_by first p sdus s [] h q;
    }

-- the first
pub record TakesOne (p : Protection) (s : State) (w : Waits) (ws : List Waits) : Type 0 where
  pub left : took s ≡ with_new ws s
  pub gives : taking s ≡ Some (written Srb p (Some s.next) w.sdu)
  pub news : takes_new s Take ≡ w.sdu ∷ []

pub takes_one : (first : ℕ) (p : Protection) (sdus : List (List ℕ)) (s : State) (w : Waits) (ws : List Waits)
    → Sends first p sdus s → s.waiting ≡ w ∷ ws → TakesOne p s w ws
takes_one first p sdus s w ws h q = record {
  left = took_by first p sdus s (w ∷ ws) h q
      ∙ ap (λ (k : PdcpKind). record s {
        waiting = drop 1 s.waiting;
        next = s.next + 1;
        given = given_new k s.given s.next w.sdu;
      }) h.srb
      ∙ ap (λ (l : List Waits). record s { waiting = drop 1 l; next = s.next + 1 }) q;
  gives = taking_by first p sdus s (w ∷ ws) h q
      ∙ ap (λ (k : PdcpKind). Some (written k s.protection (Some s.next) w.sdu)) h.srb
      ∙ ap (λ (x : Protection). Some (written Srb x (Some s.next) w.sdu)) h.key;
  news = new_by first p sdus s (w ∷ ws) h q;
}

pub new_sends : (first : ℕ) (p : Protection) (sdus : List (List ℕ)) (s : State) (w : Waits) (ws : List Waits)
    → Sends first p sdus s → s.waiting ≡ w ∷ ws
    → Sends first p (sdus ++ w.sdu ∷ []) (with_new ws s)
new_sends first p sdus s w ws h q =
    let size : length s.waiting ≡ length ws + 1 = ap length q ∙ omega arith in
    let waits : AreNonempty (w.sdu ∷ map (λ (v : Waits). v.sdu) ws) =
    subst (λ (l : List Waits). AreNonempty (map (λ (v : Waits). v.sdu) l)) q h.waits_some in
    record {
      srb = h.srb;
      key = h.key;
      count = omega (arith, h.count, length-append sdus (w.sdu ∷ []));
      room = omega (arith, h.room, size);
      wide = h.wide;
      owes_none = h.owes_none;
      none_again = h.none_again;
      none_given = h.none_given;
      unset = h.unset;
      some = some_more sdus w.sdu h.some waits.0;
      waits_some = waits.1;
    }

-- ---- RLC confirms a place

none_by : (b : Bool) (o : Option Entry) → o ≡ None → (if b then None else o) ≡ None
none_by true o e = refl
none_by false o e = e

none_acked : (g : Given) (place : ℕ) → g.entries ≡ [] → (settled (with_ack g place)).entries ≡ []
none_acked g place e =
    let here : entry_at g place ≡ None =
    none_by (nat_lt place g.gone) (slice_get g.entries (place - g.gone))
    (ap (λ l. slice_get l (place - g.gone)) e) in
    ap (λ o. trimmed (acked_at o g.entries (place - g.gone))) here ∙ ap trimmed e

bound_by : (b : Bool) (bound next : ℕ) → 2 ^ 32 ≤ bound → 2 ^ 32 ≤ (if b then bound else next + 2 ^ 32)
bound_by true bound next h = h
bound_by false bound next h = omega arith

pub moved_wide : (s : State) → s.kind ≡ Srb → s.given.entries ≡ [] → s.again ≡ [] → 2 ^ 32 ≤ s.bound
    → 2 ^ 32 ≤ (moved s).bound
moved_wide s srb none again wide =
    let least : low s ≡ s.next = ap (λ l. or_else (first_open l) (or_else (first_unacked s.again) s.next)) none
    ∙ ap (λ (l : List Sent). or_else (first_unacked l) s.next) again in
    rw (least, srb) (bound_by s.reporting s.bound s.next wide)

pub confirm_sends : (first : ℕ) (p : Protection) (sdus : List (List ℕ)) (s : State) (place : ℕ) → Sends first p sdus s
    → Sends first p sdus (confirmed s place)
unfolding confirmed
confirm_sends first p sdus s place h =
    let none = none_acked s.given place h.none_given in
    record {
      srb = h.srb;
      key = h.key;
      count = h.count;
      room = h.room;
      wide =
          moved_wide (record s {
            given = settled (with_ack s.given place);
            reporting = s.reporting && not (is_own (entry_at s.given place));
          }) h.srb none h.none_again h.wide;
      owes_none = h.owes_none;
      none_again = h.none_again;
      none_given = none;
      unset = h.unset;
      some = h.some;
      waits_some = h.waits_some;
    }

pub confirm_queues : (s : State) (place : ℕ) → queue (confirmed s place) ≡ queue s
unfolding confirmed
confirm_queues s place = refl

-- ---- a TTI begins, and no SDU is discarded

-- another clock
pub clock_sends : (first : ℕ) (p : Protection) (sdus : List (List ℕ)) (s : State) (clock : ℕ) → Sends first p sdus s
    → Sends first p sdus (record s { clock = clock })
clock_sends first p sdus s clock h = record {
  srb = h.srb;
  key = h.key;
  count = h.count;
  room = h.room;
  wide = h.wide;
  owes_none = h.owes_none;
  none_again = h.none_again;
  none_given = h.none_given;
  unset = h.unset;
  some = h.some;
  waits_some = h.waits_some;
}

pub never_overdue : (s : State) → s.discard ≡ None → is_overdue s ≡ false
never_overdue s e = ap (λ d. is_late d s.clock (slice_get s.waiting 0)) e

pub never_late : (s : State) → s.discard ≡ None → after_late s ≡ s
unfolding after_late
never_late s e = ap (λ (b : Bool). record s { waiting = if b then drop 1 s.waiting else s.waiting }) (never_overdue s e)
