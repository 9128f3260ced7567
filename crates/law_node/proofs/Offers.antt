-- What PDCP gives to RLC is a PDU of its kind.
use Rattle.std.proofs.Common.{◌≡◌, ◌≢◌, ◌<◌, inl, inr, ℕ, ◌+◌, ◌-◌, ◌*◌, ◌/◌, ◌%◌, ◌^◌, ◌==◌, Bool, true, false}
use Rattle.std.proofs.Common.{if◌then◌else◌, Option, Some, None, option_map, List, [], ◌∷◌, ◌++◌, map, take, drop}
use Rattle.std.proofs.Common.{length, slice_get, refl, sym, ap, ◌∙◌, subst, arith}
use Rattle.std.specs.Prelude.{IfSome}
use Rattle.std.proofs.lemmas.Bool.Decides.{nat_tests}
use Rattle.std.proofs.lemmas.List.{length-append, length-drop, length-take-le, take-append-drop}
use Rattle.bearer_pdcp.specs.Discarding.{after_tick}
use Rattle.bearer_pdcp.specs.Ends.{Ends, bearer_of, sends, hears, begun}
use Rattle.bearer_pdcp.specs.Hearing.{is_for_sender, got_left, with_arrived, after_hearing}
use Rattle.bearer_pdcp.specs.Lives.{owing_report, restarted}
use Rattle.bearer_pdcp.specs.Taking.{taken, after_taking}
use Rattle.eps_sec.specs.Aes.{aes, add_round_key}
use Rattle.eps_sec.specs.declared.Keys.{Keys}
use Rattle.eps_sec.specs.Modes.{cmac}
use Rattle.l2_bits.specs.declared.fault.SubmitRefusal.{SubmitRefusal}
use Rattle.l2_bits.specs.declared.fault.SubmitRefusal.TheVariants.{Empty}
use Rattle.l2_types.specs.declared.side.Side.{Side}
use Rattle.pdcp_tx_store.specs.declared.given.Sent.{Sent}
use Rattle.pdcp_tx_store.specs.Waiting.{Waits}
use Rattle.pdcp_pdu.proofs.SrbLaws.{srb_again}
use Rattle.pdcp_pdu.proofs.UserAccepts.{user_again}
use Rattle.pdcp_pdu.specs.declared.pdu.PdcpKind.{PdcpKind}
use Rattle.pdcp_pdu.specs.declared.pdu.PdcpKind.TheVariants as pdcp
use Rattle.pdcp_pdu.specs.Grammar.{srb_header, user_spelling}
use Rattle.pdcp_pdu.specs.Kinds.{IsKind, is_am, bits_of}
use Rattle.pdcp_pdu.specs.Pdus.{SrbPdu, Sdu as DataPdu, Report, IsUserBits}
use Rattle.pdcp_pdu.specs.Reading.{srb_at}
use Rattle.pdcp_rx.proofs.BitmapLemmas.{report_ends}
use Rattle.pdcp_rx.proofs.EndLemmas.{arrived_ends, fresh_ends, restarted_ends}
use Rattle.pdcp_rx.specs.declared.Cause.{Cause}
use Rattle.pdcp_rx.specs.declared.Got.{Got}
use Rattle.pdcp_rx.specs.declared.Got.TheVariants as got_as
use Rattle.pdcp_rx.specs.declared.security.Opened.{Opened}
use Rattle.pdcp_rx.specs.declared.security.Opened.TheVariants as inside
use Rattle.pdcp_rx.specs.Heard.{Heard, Bad, Told, Data, heard}
use Rattle.pdcp_rx.specs.Held.{bitmap, stored, Ends as EndsHeld}
use Rattle.pdcp_rx.specs.State.{State as Receiving, above, passed_over, opened_at, waits, raised, left_opened}
use Rattle.pdcp_rx.specs.State.{left_data, left_heard, got, arrived, report, fresh, restarted as restarted_receiving}
use Rattle.pdcp_sec.proofs.Lengths.{length_ciphered_with}
use Rattle.pdcp_sec.specs.Protection.{Protection, protection_of, ciphered_with, tag_of}
use Rattle.pdcp_tx.specs.Pdus.{mac_i, pdu}
use Rattle.pdcp_tx.specs.State.{State as Sending, Offer, refusal, owed_offers, again_offer, new_offers, offers, written}
use Rattle.pdcp_tx.specs.State.{taking, reported, restarted as restarted_sending, owing}
use Rattle.promises.specs.Names.{IsPdcp, IsData, IsReport, IsSignalling}
use Rattle.law_node.proofs.Pdcp.{Passes}
use Rattle.law_node.proofs.Texts.{WaitsHave, SentHave, Sends, take_waits, took_sends, confirmed_sends, reported_sends}
use Rattle.law_node.proofs.Texts.{ticked_sends, submitted_sends, restarted_sends, start_sends}

-- ---- the PDU of an SDU

below : (bits n : ℕ) → IsUserBits bits → n % 2 ^ bits < 2 ^ bits
below bits n (inl e) = rw e (omega arith)
below bits n (inr (inl e)) = rw e (omega arith)
below bits n (inr (inr e)) = rw e (omega arith)

some_octets : (xs : List ℕ) → 0 < length xs → xs ≢ []
some_octets [] lt e = omega (arith, lt)
some_octets (x ∷ xs) lt e = let no : x ∷ xs ≡ [] = e in cc

ciphered_some : (p : Protection) (count : ℕ) (sdu : List ℕ) → 0 < length sdu → 0 < length (ciphered_with p count sdu)
ciphered_some p count sdu some = omega (arith, some, length_ciphered_with p count sdu)

data_is : (bits : ℕ) (p : Protection) (count : ℕ) (sdu : List ℕ) → IsUserBits bits → 0 < length sdu
    → IsData bits (user_spelling bits (DataPdu (count % 2 ^ bits) (ciphered_with p count sdu)))
data_is bits p count sdu known some =
    let sn = count % 2 ^ bits in
    let part = ciphered_with p count sdu in
    let a = user_again bits (DataPdu sn part) known (
      below bits count known,
      some_octets part (ciphered_some p count sdu some),
    ) in
    record { sn = sn; data-part = part; canonical = refl; read = a.read }

pub tag_length : (p : Protection) (count : ℕ) (sdu : List ℕ) → length (mac_i p count sdu) ≡ 4
unfolding mac_i tag_of cmac aes add_round_key
tag_length p count sdu = refl

signalling_is : (p : Protection) (count : ℕ) (sdu : List ℕ) → 0 < length sdu → IsSignalling (pdu pdcp.Srb p count sdu)
unfolding pdu
signalling_is p count sdu some =
    let text = ciphered_with p count (sdu ++ mac_i p count sdu) in
    let n = length sdu in
    let size : length text ≡ n + 4 =
    omega (
      arith,
      length_ciphered_with p count (sdu ++ mac_i p count sdu),
      length-append sdu (mac_i p count sdu),
      tag_length p count sdu,
    ) in
    let q : SrbPdu = record { sn = count % 32; octets = take n text; tag = drop n text } in
    let front : length (take n text) ≡ n = length-take-le n text (omega (arith, size)) in
    let back : length (drop n text) ≡ 4 = omega (arith, size, length-drop n text) in
    let a =
    srb_again q (record {
      number = omega arith;
      some = some_octets (take n text) (omega (arith, front, some));
      tag = back;
    }) in
    let is : srb_header 0 (count % 32) ++ text ≡ srb_header 0 (count % 32) ++ (take n text ++ drop n text) =
    ap (λ (xs : List ℕ). srb_header 0 (count % 32) ++ xs) (sym (take-append-drop n text)) in
    record { pdu = q; canonical = is; read = ap srb_at is ∙ a.read }

pub user_bits : (kind : PdcpKind) → IsKind kind → is_am kind ≡ true → IsUserBits (bits_of kind)
user_bits pdcp.Srb known e = let no : false ≡ true = e in absurd cc
user_bits (pdcp.Um bits) known e = let no : false ≡ true = e in absurd cc
user_bits (pdcp.Am bits) known e = inr known

pdu_is : (kind : PdcpKind) (p : Protection) (count : ℕ) (sdu : List ℕ) → IsKind kind → 0 < length sdu
    → IsPdcp kind (pdu kind p count sdu)
unfolding pdu
pdu_is pdcp.Srb p count sdu known some = signalling_is p count sdu some
pdu_is (pdcp.Um bits) p count sdu (inl e) some = data_is bits p count sdu (inl e) some
pdu_is (pdcp.Um bits) p count sdu (inr e) some = data_is bits p count sdu (inr (inl e)) some
pdu_is (pdcp.Am bits) p count sdu known some = inl (data_is bits p count sdu (inr known) some)

-- ---- the status report

not_seven : (bits : ℕ) → IsKind (pdcp.Am bits) → bits ≢ 7
not_seven bits (inl e) f = let no : 12 ≡ 7 = sym e ∙ f in omega (arith, no)
not_seven bits (inr e) f = let no : 15 ≡ 7 = sym e ∙ f in omega (arith, no)

spelled_is : (bits next : ℕ) (held : List (Option (List ℕ))) → IsKind (pdcp.Am bits) → EndsHeld held
    → IsReport bits (user_spelling bits (Report (next % 2 ^ bits) (bitmap held 1 ((length held + 6) / 8))))
spelled_is bits next held known ends =
    let bs = bitmap held 1 ((length held + 6) / 8) in
    let a = user_again bits (Report (next % 2 ^ bits) bs) (inr known) (
      below bits next (inr known),
      not_seven bits known,
    ) in
    record { fms = next % 2 ^ bits; bitmap = bs; ends = report_ends held ends; canonical = refl; read = a.read }

report_by : (kind : PdcpKind) (r : Receiving) → r.kind ≡ kind → IsKind kind → EndsHeld r.held → is_am kind ≡ true
    → IsPdcp kind (report r)
unfolding report
report_by pdcp.Srb r same known ends e = let no : false ≡ true = e in absurd cc
report_by (pdcp.Um bits) r same known ends e = let no : false ≡ true = e in absurd cc
report_by (pdcp.Am bits) r same known ends e =
    inr
    (subst
    (λ (n : ℕ). IsReport bits
    (user_spelling n (Report (r.next % 2 ^ n) (bitmap r.held 1 ((length r.held + 6) / 8)))))
    (sym (ap bits_of same)) (spelled_is bits r.next r.held known ends))

-- ---- PDCP of a kind at an end

pub record Offers (kind : PdcpKind) (e : Ends) : Type 0 where
  pub kind_is : e.kind ≡ kind
  pub tx : Sends kind e.tx
  pub rx_kind : e.rx.kind ≡ kind
  pub held : EndsHeld e.rx.held

-- the first of what may be taken
abbrev pub IsOffered : PdcpKind → Offer → Type 0
IsOffered kind o = by o.count o.text
  where
    by : Option ℕ → List ℕ → Type 0
    by None text = IsPdcp kind text
    by (Some count) text = 0 < length text

abbrev FirstIs : PdcpKind → List Offer → Type 0
FirstIs kind [] = Unit {0}
FirstIs kind (o ∷ os) = IsOffered kind o

first_new : (kind : PdcpKind) (n : ℕ) (ws : List Waits) → WaitsHave ws → FirstIs kind (new_offers n ws)
first_new kind n [] h = tt
first_new kind n (w ∷ ws) h = h.0

first_again : (kind : PdcpKind) (ss : List Sent) (n : ℕ) (ws : List Waits) → SentHave ss → WaitsHave ws
    → FirstIs kind (map again_offer ss ++ new_offers n ws)
first_again kind [] n ws h k = first_new kind n ws k
first_again kind (s ∷ ss) n ws h k = h.0

first_owed : (kind : PdcpKind) (o : Option (List ℕ)) (ss : List Sent) (n : ℕ) (ws : List Waits)
    → IfSome o (IsPdcp kind) → SentHave ss → WaitsHave ws
    → FirstIs kind (owed_offers o ++ map again_offer ss ++ new_offers n ws)
first_owed kind None ss n ws i h k = first_again kind ss n ws h k
first_owed kind (Some r) ss n ws i h k = i

pub written_is : (kind : PdcpKind) (p : Protection) (count : Option ℕ) (text : List ℕ) → IsKind kind
    → IsOffered kind (record { count = count; text = text }) → IsPdcp kind (written kind p count text).octets
written_is kind p None text known h = h
written_is kind p (Some count) text known h = pdu_is kind p count text known h

taken_by : (kind : PdcpKind) (p : Protection) (os : List Offer) → IsKind kind → FirstIs kind os
    → IfSome (option_map (λ n. n.octets) (option_map (λ o. written kind p o.count o.text) (slice_get os 0)))
    (IsPdcp kind)
taken_by kind p [] known h = tt
taken_by kind p (o ∷ os) known h = written_is kind p o.count o.text known h

pub taken_is : (kind : PdcpKind) (e : Ends) → IsKind kind → Offers kind e → IfSome (taken e) (IsPdcp kind)
unfolding taken taking offers
taken_is kind e known o =
    let s = e.tx in
    let ws = take (s.bound - s.next) s.waiting in
    let os = owed_offers s.owed ++ map again_offer s.again ++ new_offers s.next ws in
    let first = first_owed kind s.owed s.again s.next ws o.tx.owed o.tx.again
    (take_waits (s.bound - s.next) s.waiting o.tx.waiting) in
    subst
    (λ (k : PdcpKind). IfSome
    (option_map (λ n. n.octets)
    (option_map (λ (x : Offer). written k s.protection x.count x.text) (slice_get os 0))) (IsPdcp kind))
    (sym o.tx.kind_is) (taken_by kind s.protection os known first)

-- ---- no step changes the kind, or makes another report owed

placed_kind : (b : Bool) (s : Receiving) (at : ℕ) (sdu : List ℕ)
    → (if b then record s { held = stored s.held at sdu } else raised s (stored s.held at sdu) (at + 1)).kind ≡ s.kind
placed_kind true s at sdu = refl
placed_kind false s at sdu = refl

opened_kind : (o : Opened) (s : Receiving) (cause : Cause) (at : ℕ) → (left_opened s cause at o).kind ≡ s.kind
opened_kind (inside.Sdu sdu) s cause at = placed_kind (waits s.kind cause at) s at sdu
opened_kind (inside.Differs found wanted) s cause at = refl

data_kind : (why : Option Got) (s : Receiving) (cause : Cause) (at : ℕ) (o : Opened)
    → (left_data why s cause at o).kind ≡ s.kind
data_kind (Some why) s cause at o = refl
data_kind None s cause at o = opened_kind o s cause at

heard_kind : (h : Heard) (s : Receiving) (cause : Cause) → (left_heard s cause h).kind ≡ s.kind
heard_kind (Bad refusal') s cause = refl
heard_kind (Told fms bits) s cause = refl
heard_kind (Data sn body) s cause =
    data_kind (passed_over s (above s sn)) s cause (above s sn) (opened_at s (above s sn) body)

arrived_kind : (s : Receiving) (octets : List ℕ) (cause : Cause) → (arrived s octets cause).kind ≡ s.kind
unfolding arrived
arrived_kind s octets cause = heard_kind (heard s.kind octets) s cause

arrives : (kind : PdcpKind) (octets : List ℕ) (cause : Cause) (e : Ends) → Offers kind e
    → Offers kind (with_arrived octets cause e)
arrives kind octets cause e o =
    record {
      kind_is = o.kind_is;
      tx = o.tx;
      rx_kind = arrived_kind e.rx octets cause ∙ o.rx_kind;
      held = arrived_ends e.rx octets cause o.held;
    }

if_offers : (kind : PdcpKind) (t : Bool) (x y : Ends) → Offers kind x → Offers kind y → Offers kind (if t then x else y)
if_offers kind true x y i j = i
if_offers kind false x y i j = j

with_tx : (kind : PdcpKind) (e : Ends) (s : Sending) → Offers kind e → Sends kind s → Offers kind (record e { tx = s })
with_tx kind e s o i = record { kind_is = o.kind_is; tx = i; rx_kind = o.rx_kind; held = o.held }

handed_offers : (kind : PdcpKind) (e : Ends) → Offers kind e
    → Offers kind (record e { rx = record e.rx { ready = [] } })
handed_offers kind e o = record { kind_is = o.kind_is; tx = o.tx; rx_kind = o.rx_kind; held = o.held }

got_offers : (kind : PdcpKind) (g : Got) (cause : Cause) (e : Ends) → Offers kind e → Offers kind (got_left g cause e)
got_offers kind got_as.Up cause e o = handed_offers kind e o
got_offers kind got_as.Stored cause e o = handed_offers kind e o
got_offers kind got_as.Old cause e o = o
got_offers kind got_as.OutOfRange cause e o = o
got_offers kind (got_as.Integrity found wanted) cause e o = o
got_offers kind (got_as.Report fms bits) cause e o =
    if_offers kind (is_for_sender e cause) (record e { tx = reported e.tx fms bits }) e
    (with_tx kind e (reported e.tx fms bits) o (reported_sends kind e.tx fms bits o.tx)) o
got_offers kind (got_as.Unreadable fault) cause e o = o

heard_offers : (kind : PdcpKind) (octets : List ℕ) (cause : Cause) (e : Ends) → Offers kind e
    → Offers kind (after_hearing octets cause e)
unfolding after_hearing
heard_offers kind octets cause e o =
    got_offers kind (got e.rx octets cause) cause (with_arrived octets cause e) (arrives kind octets cause e o)

owing_sends : (kind : PdcpKind) (s : Sending) (octets : List ℕ) → Sends kind s → IsPdcp kind octets
    → Sends kind (owing s octets)
owing_sends kind s octets i r =
    record { kind_is = i.kind_is; owed = r; waiting = i.waiting; again = i.again; given = i.given }

owing_by : (t : Bool) (kind : PdcpKind) (s : Sending) (octets : List ℕ) → Sends kind s
    → (t ≡ true → IsPdcp kind octets) → Sends kind (owing_report (if t then Some octets else None) s)
owing_by true kind s octets i r = owing_sends kind s octets i (r refl)
owing_by false kind s octets i r = i

restarted_offers : (kind : PdcpKind) (e : Ends) (keys : Keys) → IsKind kind → Offers kind e
    → Offers kind (restarted e keys)
unfolding restarted restarted_receiving
restarted_offers kind e keys known o = record {
  kind_is = o.kind_is;
  tx = owing_by (is_am e.kind) kind (restarted_sending e.tx keys) (report e.rx) (restarted_sends kind e.tx keys o.tx)
      (λ t. report_by kind e.rx o.rx_kind known o.held (sym (ap is_am o.kind_is) ∙ t));
  rx_kind = o.rx_kind;
  held = restarted_ends e.rx keys o.held;
}

pub taken_offers : (kind : PdcpKind) (e : Ends) → Offers kind e → Offers kind (after_taking e)
unfolding after_taking
taken_offers kind e o = with_tx kind e _ o (took_sends kind e.tx o.tx)

ticked_offers : (kind : PdcpKind) (e : Ends) → Offers kind e → Offers kind (after_tick e)
unfolding after_tick
ticked_offers kind e o = with_tx kind e _ o (ticked_sends kind e.tx o.tx)

some_by : (t : Bool) (octets : List ℕ) (others : Option SubmitRefusal) → (length octets == 0) ≡ t
    → (if t then Some Empty else others) ≡ None → 0 < length octets
some_by true octets others e r = let no : Some Empty ≡ None = r in absurd cc
some_by false octets others e r = grind (arith, nat_tests, e)

some_submitted : (s : Sending) (octets : List ℕ) → refusal s octets ≡ None → 0 < length octets
unfolding refusal
some_submitted s octets r = some_by (length octets == 0) octets _ refl r

pub offers_pass : (kind : PdcpKind) → IsKind kind → Passes (Offers kind)
offers_pass kind known = record {
  heard = heard_offers kind;
  ticked = ticked_offers kind;
  taken = taken_offers kind;
  confirms = λ e place o. with_tx kind e _ o (confirmed_sends kind e.tx place o.tx);
  submits = λ e octets r o. with_tx kind e _ o (submitted_sends kind e.tx octets (some_submitted e.tx octets r) o.tx);
  discards =
      λ e ttis o. with_tx kind e _ o (record {
        kind_is = o.tx.kind_is;
        owed = o.tx.owed;
        waiting = o.tx.waiting;
        again = o.tx.again;
        given = o.tx.given;
      });
  restarts = λ e keys o. restarted_offers kind e keys known o;
}

pub begun_offers : (lcid : ℕ) (kind : PdcpKind) (first : ℕ) (keys : Keys) (side : Side)
    → Offers kind (begun lcid kind first keys side)
unfolding begun fresh
begun_offers lcid kind first keys side =
    record {
      kind_is = refl;
      tx = start_sends kind (protection_of kind keys (bearer_of lcid) (sends side)) first;
      rx_kind = refl;
      held = fresh_ends kind (protection_of kind keys (bearer_of lcid) (hears side)) first;
    }

-- ---- a PDU has an octet

data_some : (bits sn : ℕ) (data-part : List ℕ) → 0 < length (user_spelling bits (DataPdu sn data-part))
data_some bits sn data-part = by (bits == 7) (bits == 12)
  where
    by : (s t : Bool)
        → 0
        < length
        ((if s then (128 + sn) ∷ [] else if t then (128 + 0 * 16 + sn / 256) ∷ (sn % 256) ∷ []
        else (128 + sn / 256) ∷ (sn % 256) ∷ []) ++ data-part)
    by true t = omega arith
    by false true = omega arith
    by false false = omega arith

report_some : (bits fms : ℕ) (bitmap' : List ℕ) → 0 < length (user_spelling bits (Report fms bitmap'))
report_some bits fms bitmap' = by (bits == 12)
  where
    by : (t : Bool)
        → 0
        < length
        ((if t then (fms / 256) ∷ (fms % 256) ∷ [] else (0 / 2) ∷ (0 % 2 * 128 + fms / 256) ∷ (fms % 256) ∷ [])
        ++ bitmap')
    by true = omega arith
    by false = omega arith

data_has : (bits : ℕ) (octets : List ℕ) → IsData bits octets → 0 < length octets
data_has bits octets d = subst (λ (xs : List ℕ). 0 < length xs) (sym d.canonical) (data_some bits d.sn d.data-part)

pub pdu_some : (kind : PdcpKind) (octets : List ℕ) → IsPdcp kind octets → 0 < length octets
pdu_some pdcp.Srb octets i = subst (λ (xs : List ℕ). 0 < length xs) (sym i.canonical) (omega arith)
pdu_some (pdcp.Um bits) octets i = data_has bits octets i
pdu_some (pdcp.Am bits) octets (inl i) = data_has bits octets i
pdu_some (pdcp.Am bits) octets (inr i) =
    subst (λ (xs : List ℕ). 0 < length xs) (sym i.canonical) (report_some bits i.fms i.bitmap)
