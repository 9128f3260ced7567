-- What an acknowledged bearer may still send, over its deeds.
use Rattle.std.proofs.Common.{◌≡◌, ◌≤◌, ℕ, ◌+◌, ◌-◌, ◌*◌, ◌/◌, ◌%◌, ◌^◌, ◌==◌, Bool, true, false}
use Rattle.std.proofs.Common.{if◌then◌else◌, List}
use Rattle.std.proofs.Common.{[], ◌∷◌, ◌++◌, length, Option, Some, None, option_map, refl, ap}
use Rattle.std.proofs.Common.{sym}
use Rattle.std.proofs.Common.{subst, ◌∙◌, arith, length-append}
use Rattle.std.specs.Prelude.{slice_get}
use Rattle.std.specs.List.{AllByRecursion}
use Rattle.eps_sec.specs.Aes.{aes, add_round_key}
use Rattle.eps_sec.specs.Modes.{cmac}
use Rattle.l2_num.specs.Timers.{runs}
use Rattle.l2_types.specs.declared.config.AmTxConfig.{AmTxConfig}
use Rattle.pdcp_pdu.specs.declared.pdu.PdcpKind.{PdcpKind}
use Rattle.pdcp_pdu.specs.declared.pdu.PdcpKind.TheVariants.{Srb, Um, Am as AmKind}
use Rattle.pdcp_pdu.specs.Grammar.{data_header, srb_header}
use Rattle.pdcp_sec.proofs.Lengths.{length_ciphered_with}
use Rattle.pdcp_sec.specs.Protection.{Protection, ciphered_with, tag_of}
use Rattle.pdcp_rx.specs.Heard.{Heard, Bad, Told, Data, heard}
use Rattle.pdcp_tx.specs.declared.sender.Next.{Next}
use Rattle.pdcp_tx.specs.Pdus.{extra, pdu, mac_i}
use Rattle.pdcp_tx.specs.Runs.{Take as TakePdcp, Confirm as ConfirmPdcp}
use Rattle.pdcp_tx.specs.Runs.{Report as ReportPdcp, after as after_pdcp}
use Rattle.pdcp_tx.specs.State.{State as Sending, Offer as PdcpOffer, offers, taking, written, size}
use Rattle.rlc_am_tx_window.specs.Window.{offset_of}
use Rattle.rlc_am_tx.specs.Machine.{State as Sender, turn, after_status, after_expiry, is_ignored}
use Rattle.rlc_am_tx.specs.Machine.{ended, limit_of, stops, read, applied, recalled_place, with_recalled, with_owed}
use Rattle.rlc_am_tx.specs.Machine.{expired, expiry_limit, settles, settled_by}
use Rattle.law_rlc.specs.AmSender.Run.{Call as SenderCall, Offer, Take as Taking, Status, Tick as TickSender}
use Rattle.law_rlc.specs.AmSender.Run.{Expire as ExpireSender, Settle, Confirm as HandOver, World, after}
use Rattle.law_rlc.specs.AmSender.Run.{run_am_sender}
use Rattle.law_rlc.specs.AmSender.Namings.{Marks, marks_after}
use Rattle.law_rlc.specs.AmSender.Octets.{HasOctets}
use Rattle.law_rlc.proofs.AmSender.Marked.{turn-config, ended-config, recalled-config}
use Rattle.law_rlc.proofs.AmSender.Limits.{turn-failed, settled-failed}
use Rattle.bearer.specs.Acknowledged.State.{State}
use Rattle.law_bearer.specs.AmBearer.Deeds.{Deed, Feeds, Sends, Confirms, Receives, HandsUp, Asks, Sets, does, does_all}
use Rattle.law_bearer.specs.AmBearer.Deeds.{offered_next, with_sending, confirms_first, hands_first, after_heard}
use Rattle.law_bearer.specs.AmBearer.Sending.{offers_next, hand_over_calls, sends_at, sends_in}
use Rattle.law_drain.specs.Bearer.{bearer_dues}
use Rattle.law_drain.specs.Dues.{dues, sent_by, offered_by}
use Rattle.law_drain.specs.Unsent.{unsent, offer_octets, given_by, added_by}
use Rattle.law_drain.proofs.Come.{HasCome, run-then, first-all, last-all, come-then, call-falls}
use Rattle.law_drain.proofs.Dues.{failed-due}
use Rattle.law_drain.proofs.Unsent.{unsent_falls}

-- ---- products

pub spread : (most a b : ℕ) → (most + 1) * (a + b) ≡ (most + 1) * a + (most + 1) * b
spread most a b = omega arith

pub grows : (most a b : ℕ) → a ≤ b → (most + 1) * a ≤ (most + 1) * b
grows most a b le =
    let all : (most + 1) * b ≡ (most + 1) * (a + (b - a)) = ap (λ (n : ℕ). (most + 1) * n) (omega (arith, le)) in
    omega (arith, all, spread most a (b - a))

-- ---- a PDU of PDCP is as long as its offer

tag_length : (p : Protection) (count : ℕ) (sdu : List ℕ) → length (mac_i p count sdu) ≡ 4
unfolding mac_i tag_of cmac aes add_round_key
tag_length p count sdu = refl

header_few : (bits sn : ℕ) → length (data_header bits 0 sn) ≤ (if bits == 7 then 1 else 2)
header_few bits sn = by (bits == 7) (bits == 12)
  where
    by : (a b : Bool)
        → length (if a then (128 + sn) ∷ [] else if b then (128 + 0 * 16 + sn / 256) ∷ (sn % 256) ∷ []
        else (128 + sn / 256) ∷ (sn % 256) ∷ []) ≤ (if a then 1 else 2)
    by true b = omega arith
    by false true = omega arith
    by false false = omega arith

pdu_few : (kind : PdcpKind) (p : Protection) (count : ℕ) (text : List ℕ)
    → length (pdu kind p count text) ≤ length text + extra kind
unfolding pdu
pdu_few Srb p count text =
    let body = text ++ mac_i p count text in
    omega (
      arith,
      length-append (srb_header 0 (count % 32)) (ciphered_with p count body),
      length_ciphered_with p count body,
      length-append text (mac_i p count text),
      tag_length p count text,
    )
pdu_few (Um bits) p count text =
    omega (
      arith,
      length-append (data_header bits 0 (count % 2 ^ bits)) (ciphered_with p count text),
      length_ciphered_with p count text,
      header_few bits (count % 2 ^ bits),
    )
pdu_few (AmKind bits) p count text =
    let two : (if bits == 7 then 1 else 2) ≤ 2 = most (bits == 7) in
    omega (
      arith,
      length-append (data_header bits 0 (count % 2 ^ bits)) (ciphered_with p count text),
      length_ciphered_with p count text,
      header_few bits (count % 2 ^ bits),
      two,
    )
  where
    most : (b : Bool) → (if b then 1 else 2) ≤ 2
    most true = omega arith
    most false = omega arith

abbrev pub octets_of : Option Next → ℕ
octets_of None = 0
octets_of (Some next) = length next.octets

written_few : (kind : PdcpKind) (p : Protection) (count : Option ℕ) (text : List ℕ)
    → length (written kind p count text).octets ≤ size kind count (length text)
written_few kind p None text = omega arith
written_few kind p (Some count) text = pdu_few kind p count text

pub taking_few : (s : Sending) → octets_of (taking s) ≤ given_by s TakePdcp
unfolding taking
taking_few s = by (slice_get (offers s) 0)
  where
    by : (o : Option PdcpOffer)
        → octets_of (option_map (λ x. written s.kind s.protection x.count x.text) o) ≤ offer_octets s.kind o
    by None = omega arith
    by (Some x) = written_few s.kind s.protection x.count x.text

-- ---- RLC's sender, over a call

settled-config : (b : Bool) (s : Sender) → (settled_by b s).config ≡ s.config
settled-config true s = refl
settled-config false s = refl

pub call-config : (s : Sender) (c : SenderCall) → (after s c).config ≡ s.config
unfolding after_status after_expiry
call-config s (Offer sdu) = refl
call-config s (Taking share held more) = turn-config (turn s share held more) s share more
call-config s (Status status) = by (is_ignored s status.ack)
  where
    by : (b : Bool)
        → (if b then s else applied s (offset_of s.window.base status.ack) status.nacks).config ≡ s.config
    by true = refl
    by false = ended-config (limit_of s (offset_of s.window.base status.ack) status.nacks)
        (stops s (offset_of s.window.base status.ack) status.nacks)
        (read s (offset_of s.window.base status.ack) status.nacks)
call-config s TickSender = refl
call-config s (ExpireSender more) = by (runs s.polls.timer)
  where
    by : (b : Bool) → (if b then ended (expiry_limit s more) false (expired s more) else s).config ≡ s.config
    by true = ended-config (expiry_limit s more) false (expired s more)
        ∙ recalled-config (recalled_place s more) (with_owed s)
    by false = refl
call-config s (Settle more) = settled-config (settles s more) s
call-config s HandOver = refl

ended-stays : (l : Option ℕ) (b : Bool) (s : Sender) → s.failed ≡ true → (ended l b s).failed ≡ true
ended-stays (Some sn) b s e = refl
ended-stays None true s e = e
ended-stays None false s e = e

recalled-stays : (o : Option ℕ) (s : Sender) → s.failed ≡ true → (with_recalled o s).failed ≡ true
recalled-stays None s e = e
recalled-stays (Some at) s e = e

-- the limit stays reached
pub call-failed : (s : Sender) (c : SenderCall) → s.failed ≡ true → (after s c).failed ≡ true
unfolding after_status after_expiry
call-failed s (Offer sdu) e = e
call-failed s (Taking share held more) e = turn-failed (turn s share held more) s share more ∙ e
call-failed s (Status status) e = by (is_ignored s status.ack)
  where
    by : (b : Bool)
        → (if b then s else applied s (offset_of s.window.base status.ack) status.nacks).failed ≡ true
    by true = e
    by false = ended-stays (limit_of s (offset_of s.window.base status.ack) status.nacks)
        (stops s (offset_of s.window.base status.ack) status.nacks)
        (read s (offset_of s.window.base status.ack) status.nacks) e
call-failed s TickSender e = e
call-failed s (ExpireSender more) e = by (runs s.polls.timer)
  where
    by : (b : Bool) → (if b then ended (expiry_limit s more) false (expired s more) else s).failed ≡ true
    by true = ended-stays (expiry_limit s more) false (expired s more)
        (recalled-stays (recalled_place s more) (with_owed s) e)
    by false = e
call-failed s (Settle more) e = settled-failed (settles s more) s ∙ e
call-failed s HandOver e = e

-- ---- a deed

abbrev pub sent_at : State → Deed → ℕ
sent_at b Feeds = 0
sent_at b (Sends c) = sent_by b.tx c
sent_at b Confirms = 0
sent_at b (Receives c) = 0
sent_at b HandsUp = 0
sent_at b (Asks c) = 0
sent_at b (Sets ttis) = 0

abbrev pub brought_at : State → Deed → ℕ
brought_at b Feeds = 0
brought_at b (Sends c) = offered_by b.tx c
brought_at b Confirms = 0
brought_at b (Receives c) = 0
brought_at b HandsUp = 0
brought_at b (Asks c) = (b.tx.config.max_retx + 1) * added_by b.pdcp.tx c
brought_at b (Sets ttis) = 0

abbrev pub marks_at : State → Deed → Marks → Marks
marks_at b deed m = (run_am_sender marks_after (sends_at b deed) (record { state = b.tx; past = m })).past

pub record Falls (b d : State) (m n : Marks) (calls : List SenderCall) (sent brought : ℕ) : Type 0 where
  pub run : run_am_sender marks_after calls (record { state = b.tx; past = m }) ≡ record { state = d.tx; past = n }
  pub falls : bearer_dues d n + sent ≤ bearer_dues b m + brought

-- what PDCP has still to give isn't more
pub asked : (b : State) (p : Sending) (m : Marks) (more : ℕ) → unsent p ≤ unsent b.pdcp.tx + more
    → bearer_dues (with_sending p b) m ≤ bearer_dues b m + (b.tx.config.max_retx + 1) * more
asked b p m more le = by b.tx.failed
  where
    by : (f : Bool) → dues b.tx m + (if f then 0 else (b.tx.config.max_retx + 1) * unsent p)
        ≤ dues b.tx m + (if f then 0 else (b.tx.config.max_retx + 1) * unsent b.pdcp.tx)
        + (b.tx.config.max_retx + 1) * more
    by true = omega arith
    by false =
        let all = grows b.tx.config.max_retx (unsent p) (unsent b.pdcp.tx + more) le in
        omega (arith, all, spread b.tx.config.max_retx (unsent b.pdcp.tx) more)

pub capped : (f g : Bool) (most unsent is was sent brought : ℕ) → (f ≡ true → g ≡ true) → is + sent ≤ was + brought
    → is + (if g then 0 else most * unsent) + sent ≤ was + (if f then 0 else most * unsent) + brought
capped true true most unsent is was sent brought h le = omega (arith, le)
capped true false most unsent is was sent brought h le = let no' : false ≡ true = h refl in cc
capped false true most unsent is was sent brought h le = omega (arith, le)
capped false false most unsent is was sent brought h le = omega (arith, le)

sends-falls : (b : State) (c : SenderCall) (m : Marks) → HasCome b.tx m → HasOctets c
    → bearer_dues (does b (Sends c)) (marks_after b.tx c m) + sent_by b.tx c
    ≤ bearer_dues b m + offered_by b.tx c
sends-falls b c m h one =
    subst
    (λ (k : AmTxConfig). dues (after b.tx c) (marks_after b.tx c m)
    + (if (after b.tx c).failed then 0 else (k.max_retx + 1) * unsent b.pdcp.tx) + sent_by b.tx c
    ≤ bearer_dues b m + offered_by b.tx c) (sym (call-config b.tx c))
    (capped b.tx.failed (after b.tx c).failed (b.tx.config.max_retx + 1) (unsent b.pdcp.tx)
    (dues (after b.tx c) (marks_after b.tx c m)) (dues b.tx m) (sent_by b.tx c) (offered_by b.tx c)
    (call-failed b.tx c) (call-falls b.tx m c h one))

-- RLC takes a PDU
pub fed-falls : (o : Option Next) (b : State) (p : Sending) (m : Marks) → HasCome b.tx m
    → AllByRecursion HasOctets (offers_next o) → unsent p + octets_of o ≤ unsent b.pdcp.tx
    → Falls b (with_sending p (record b { tx = offered_next o b.tx })) m m (offers_next o) 0 0
fed-falls None b p m h some le = record {
  run = refl;
  falls = let all = asked b p m 0 (omega (arith, le)) in omega (arith, all);
}
fed-falls (Some next) b p m h some le = record {
  run = refl;
  falls = by b.tx.failed refl;
}
  where
    t : Sender
    t = after b.tx (Offer next.octets)

    M : ℕ
    M = b.tx.config.max_retx

    by : (f : Bool) → b.tx.failed ≡ f
        → dues t m + (if f then 0 else (M + 1) * unsent p) + 0
        ≤ dues b.tx m + (if f then 0 else (M + 1) * unsent b.pdcp.tx) + 0
    by true e = let none : dues t m ≡ 0 = failed-due t m e in omega (arith, none)
    by false e =
        let falls = call-falls b.tx m (Offer next.octets) h some.0 in
        let all = grows M (unsent p + length next.octets) (unsent b.pdcp.tx) le in
        omega (arith, falls, all, spread M (unsent p) (length next.octets))

pub confirmed-falls : (places : List ℕ) (b : State) (m : Marks)
    → Falls b (confirms_first places b) m m (hand_over_calls places) 0 0
confirmed-falls [] b m = record { run = refl; falls = omega arith }
confirmed-falls (place ∷ places) b m = record {
  run = refl;
  falls =
      let all = asked b (after_pdcp b.pdcp.tx (ConfirmPdcp place)) m 0
      (let one = unsent_falls b.pdcp.tx (ConfirmPdcp place) in omega (arith, one)) in
      omega (arith, all);
}

pub heard-falls : (h : Heard) (s : Sending) → unsent (after_heard h s) ≤ unsent s
heard-falls (Bad refusal) s = omega arith
heard-falls (Told fms bitmap) s = let one = unsent_falls s (ReportPdcp fms bitmap) in omega (arith, one)
heard-falls (Data sn body) s = omega arith

pub handed-falls : (sdus : List (List ℕ)) (b : State) (m : Marks) → Falls b (hands_first sdus b) m m [] 0 0
handed-falls [] b m = record { run = refl; falls = omega arith }
handed-falls (sdu ∷ sdus) b m = record {
  run = refl;
  falls =
      let all = asked b (after_heard (heard b.pdcp.rx.kind sdu) b.pdcp.tx) m 0
      (omega (arith, heard-falls (heard b.pdcp.rx.kind sdu) b.pdcp.tx)) in
      omega (arith, all);
}

pub deed-falls : (deed : Deed) (b : State) (m : Marks) → HasCome b.tx m → AllByRecursion HasOctets (sends_at b deed)
    → Falls b (does b deed) m (marks_at b deed m) (sends_at b deed) (sent_at b deed) (brought_at b deed)
deed-falls Feeds b m h some =
    let f = fed-falls (taking b.pdcp.tx) b (after_pdcp b.pdcp.tx TakePdcp) m h some
    (let one = unsent_falls b.pdcp.tx TakePdcp in omega (arith, one, taking_few b.pdcp.tx)) in
    let same : marks_at b Feeds m ≡ m = ap (λ (w : World Marks). w.past) f.run in
    rw same f
deed-falls (Sends c) b m h some = record { run = refl; falls = sends-falls b c m h some.0 }
deed-falls Confirms b m h some =
    let f = confirmed-falls b.tx.accounts.news b m in
    let same : marks_at b Confirms m ≡ m = ap (λ (w : World Marks). w.past) f.run in
    rw same f
deed-falls (Receives c) b m h some = record { run = refl; falls = omega arith }
deed-falls HandsUp b m h some =
    let f = handed-falls b.rx.out.ready b m in
    record { run = ap (λ (t : Sender). record { state = t; past = m }) (hands_tx b.rx.out.ready); falls = f.falls }
  where
    hands_tx : (sdus : List (List ℕ)) → b.tx ≡ (hands_first sdus b).tx
    hands_tx [] = refl
    hands_tx (sdu ∷ sdus) = refl
deed-falls (Asks c) b m h some = record {
  run = refl;
  falls =
      let all = asked b (after_pdcp b.pdcp.tx c) m (added_by b.pdcp.tx c)
      (let one = unsent_falls b.pdcp.tx c in omega (arith, one)) in
      omega (arith, all);
}
deed-falls (Sets ttis) b m h some = record { run = refl; falls = omega arith }

-- ---- any deeds

abbrev pub marks_along : List Deed → State → Marks → Marks
marks_along [] b m = m
marks_along (deed ∷ deeds) b m = marks_along deeds (does b deed) (marks_at b deed m)

abbrev pub sent_along : List Deed → State → ℕ
sent_along [] b = 0
sent_along (deed ∷ deeds) b = sent_at b deed + sent_along deeds (does b deed)

abbrev pub brought_along : List Deed → State → ℕ
brought_along [] b = 0
brought_along (deed ∷ deeds) b = brought_at b deed + brought_along deeds (does b deed)

pub deeds-fall : (deeds : List Deed) (b : State) (m : Marks) → HasCome b.tx m
    → AllByRecursion HasOctets (sends_in deeds b)
    → Falls b (does_all deeds b) m (marks_along deeds b m) (sends_in deeds b) (sent_along deeds b)
    (brought_along deeds b)
deeds-fall [] b m h some = record { run = refl; falls = omega arith }
deeds-fall (deed ∷ deeds) b m h some =
    let now = first-all (sends_at b deed) (sends_in deeds (does b deed)) some in
    let one = deed-falls deed b m h now in
    let come = come-then (sends_at b deed) b.tx (does b deed).tx m (marks_at b deed m) h now one.run in
    let rest = deeds-fall deeds (does b deed) (marks_at b deed m) come
    (last-all (sends_at b deed) (sends_in deeds (does b deed)) some) in
    record {
      run = run-then (sends_at b deed) (sends_in deeds (does b deed)) (record { state = b.tx; past = m })
          ∙ ap (run_am_sender marks_after (sends_in deeds (does b deed))) one.run ∙ rest.run;
      falls = omega (arith, one.falls, rest.falls);
    }

pub marks-then : (xs ys : List Deed) (b : State) (m : Marks)
    → marks_along (xs ++ ys) b m ≡ marks_along ys (does_all xs b) (marks_along xs b m)
marks-then [] ys b m = refl
marks-then (x ∷ xs) ys b m = marks-then xs ys (does b x) (marks_at b x m)
