-- What a bearer tells as RLC takes PDUs of PDCP are just those that it takes.
use Rattle.std.proofs.Common.{◌≡◌, ◌≤◌, inl, inr, ℕ, zero, suc, ◌+◌, ◌-◌, ◌==◌, Bool, true, false, if◌then◌else◌, List}
use Rattle.std.proofs.Common.{[], ◌∷◌, ◌++◌, map, length, take, drop, Option, Some, None, Result, Ok, Err, option_map}
use Rattle.std.proofs.Common.{slice_get, ◌%◌, ◌*◌, ◌^◌, refl, ap, sym, ◌∙◌, arith, append_assoc, append-nil}
use Rattle.std.proofs.Common.{length-append}
use Rattle.std.specs.List.{AllByRecursion, flat_map}
use Rattle.std.proofs.lemmas.Grind.{flat_map-append}
use Rattle.bearer_types.specs.declared.Event.{Event}
use Rattle.bearer_types.specs.declared.Event.TheVariants as events
use Rattle.l2_types.specs.declared.Clock.{Clock}
use Rattle.l2_types.specs.declared.Clock.TheVariants.{Poll, Prohibit}
use Rattle.l2_types.specs.declared.How.{How}
use Rattle.l2_types.specs.declared.Waits.{Waits as Why}
use Rattle.l2_types.specs.declared.Waits.TheVariants as why
use Rattle.l2_types.specs.declared.How.TheVariants as how
use Rattle.rlc_pdu.specs.declared.Taken.{Taken}
use Rattle.rlc_pdu.specs.declared.Taken.TheVariants.{Piece, Idle, Small, Shut, Held, Stopped}
use Rattle.rlc_am_rx.specs.State.{State as Receiver}
use Rattle.rlc_am_rx.specs.Status.{ack}
use Rattle.rlc_am_tx.specs.Need.{hungry}
use Rattle.pdcp_pdu.specs.declared.pdu.PdcpKind.{PdcpKind}
use Rattle.pdcp_pdu.specs.declared.pdu.PdcpKind.TheVariants.{Am as AmKind}
use Rattle.pdcp_pdu.specs.declared.pdu.PdcpRefusal.{PdcpRefusal}
use Rattle.pdcp_pdu.specs.declared.pdu.PdcpWhy.TheVariants.{ReservedType}
use Rattle.pdcp_pdu.specs.Kinds.{IsKind}
use Rattle.pdcp_pdu.specs.Pdus.{UserPdu, Sdu, Report}
use Rattle.pdcp_pdu.specs.Grammar.{data_header}
use Rattle.pdcp_pdu.specs.Reading.{user_at, sdu_at, middle_user, long_report, long_user}
use Rattle.pdcp_pdu.specs.Refusals.{is_data, has_report_type}
use Rattle.pdcp_sec.specs.Protection.{Protection, ciphered_with}
use Rattle.pdcp_sec.proofs.Lengths.{length_ciphered_with}
use Rattle.pdcp_rx.specs.Heard.{Told, heard, heard_user}
use Rattle.pdcp_tx.specs.Pdus.{pdu}
use Rattle.pdcp_tx_store.specs.declared.given.Sent.{Sent}
use Rattle.pdcp_tx_store.specs.Waiting.{Waits}
use Rattle.pdcp_tx.specs.State.{State as Sending, Offer, owed_offers, again_offer, new_offers, offers, took, written}
use Rattle.pdcp_tx.specs.State.{taking as pdcp_taking}
use Rattle.law_words.specs.Arrivals.{Given}
use Rattle.law_pdcp.specs.AmPair.Flow.{IsReport}
use Rattle.law_pdcp.proofs.AmPair.Sound.{Owes}
use Rattle.bearer_pdcp.specs.Ends.{Ends}
use Rattle.bearer_pdcp.specs.Taking.{report_told, next_told, taking_told, after_taking as after_pdcp}
use Rattle.bearer.specs.Acknowledged.State.{State, Work, work}
use Rattle.bearer.specs.Acknowledged.Taking.{writes_status, status_told, has_prohibit, fed, feeds, data_told, data_size}
use Rattle.bearer.specs.Acknowledged.Taking.{feeding, answer_of, taking, after_taking}
use Rattle.law_bearer.specs.AnyBearer.Stream.{takes, pdu_of}
use Rattle.bearer.specs.declared.flow.Flow.TheVariants.{Am}
use Rattle.bearer.specs.Taking.{told, after as flow_after}
use Rattle.law_bearer.specs.AnyBearer.Calls.{Take}
use Rattle.law_bearer.proofs.AnyBearer.Acknowledged.{take_left}
use Rattle.law_bearer.proofs.AnyBearer.Parts.{pdcp_took, pdcp_rest}
use Rattle.law_bearer.proofs.AnyBearer.Flows.{taken_off}
use Rattle.law_bearer.proofs.AnyBearer.Sender.{AreSame, took_same, left_of}
use Rattle.promises.specs.Given.{given_in}

-- ---- a PDU that may be taken

abbrev pub given_as : Sending → Offer → Given
given_as s o = record { count = o.count; size = length (pdu_of s o) }

-- one without a COUNT is a status report
abbrev pub IsRight : PdcpKind → Offer → Type 0
IsRight kind o = o.count ≡ None → IsReport kind o.text

sdu_size : (bits : ℕ) (p : Protection) (count : ℕ) (text : List ℕ) → IsKind (AmKind bits)
    → length (pdu (AmKind bits) p count text) ≡ length text + 2
unfolding pdu
sdu_size bits p count text k =
    let sn = count % 2 ^ bits in
    let body = ciphered_with p count text in
    let c : length body ≡ length text = length_ciphered_with p count text in
    let a = length-append (data_header bits 0 sn) body in
    let h : length (data_header bits 0 sn) ≡ 2 = header bits sn k in
    omega (arith, a, c, h)
  where
    header : (bits sn : ℕ) → IsKind (AmKind bits) → length (data_header bits 0 sn) ≡ 2
    header bits sn (inl e) = rw e refl
    header bits sn (inr e) = rw e refl

-- octets that are read as a report have a header and its bitmap
sdu_none : (at sn : ℕ) (rest : List ℕ) (fms : ℕ) (bitmap : List ℕ) → sdu_at at sn rest ≡ Ok (Report fms bitmap) → ⊥
unfolding sdu_at
sdu_none at sn [] fms bitmap e = cc
sdu_none at sn (o ∷ os) fms bitmap e = cc

middle_size : (octets : List ℕ) (fms : ℕ) (bitmap : List ℕ) → middle_user octets ≡ Ok (Report fms bitmap)
    → length octets ≡ 2 + length bitmap
unfolding middle_user
middle_size [] fms bitmap e = cc
middle_size (a ∷ []) fms bitmap e = cc
middle_size (a ∷ b ∷ rest) fms bitmap e =
    by (is_data a) (has_report_type a) (sdu_at 2 (a % 16 * 256 + b) rest)
    (λ q. sdu_none 2 (a % 16 * 256 + b) rest fms bitmap q) e
  where
    by : (d t : Bool) (x : Result UserPdu PdcpRefusal) → (x ≡ Ok (Report fms bitmap) → ⊥)
        → (if d then x else if t then Ok (Report (a % 16 * 256 + b) rest)
        else Err (record { at = 0; why = ReservedType })) ≡ Ok (Report fms bitmap)
        → length (a ∷ b ∷ rest) ≡ 2 + length bitmap
    by true t x no' q = absurd (no' q)
    by false true x no' q =
        let same : Ok (Report (a % 16 * 256 + b) rest) ≡ Ok (Report fms bitmap) = q in
        let is : rest ≡ bitmap = cc in
        let l = ap (λ (xs : List ℕ). length xs) is in omega (arith, l)
    by false false x no' q = cc

long_report_size : (b : ℕ) (rest : List ℕ) (fms : ℕ) (bitmap : List ℕ) → long_report b rest ≡ Ok (Report fms bitmap)
    → length rest ≡ 1 + length bitmap
unfolding long_report
long_report_size b [] fms bitmap e = cc
long_report_size b (c ∷ rest) fms bitmap e =
    let same : Ok (Report (b % 128 * 256 + c) rest) ≡ Ok (Report fms bitmap) = e in
    let is : rest ≡ bitmap = cc in
    let l = ap (λ (xs : List ℕ). length xs) is in omega (arith, l)

long_size : (octets : List ℕ) (fms : ℕ) (bitmap : List ℕ) → long_user octets ≡ Ok (Report fms bitmap)
    → length octets ≡ 3 + length bitmap
unfolding long_user
long_size [] fms bitmap e = cc
long_size (a ∷ []) fms bitmap e = cc
long_size (a ∷ b ∷ rest) fms bitmap e =
    by (is_data a) (has_report_type a) (sdu_at 2 (a % 128 * 256 + b) rest) (long_report b rest)
    (λ q. sdu_none 2 (a % 128 * 256 + b) rest fms bitmap q) (λ q. long_report_size b rest fms bitmap q) e
  where
    by : (d t : Bool) (x y : Result UserPdu PdcpRefusal) → (x ≡ Ok (Report fms bitmap) → ⊥)
        → (y ≡ Ok (Report fms bitmap) → length rest ≡ 1 + length bitmap)
        → (if d then x else if t then y else Err (record { at = 0; why = ReservedType })) ≡ Ok (Report fms bitmap)
        → length (a ∷ b ∷ rest) ≡ 3 + length bitmap
    by true t x y no' more q = absurd (no' q)
    by false true x y no' more q = let l = more q in omega (arith, l)
    by false false x y no' more q = cc

report_size : (bits : ℕ) (octets : List ℕ) (fms : ℕ) (bitmap : List ℕ) → IsKind (AmKind bits)
    → user_at bits octets ≡ Ok (Report fms bitmap)
    → length octets ≡ (if bits == 12 then 2 else 3) + length bitmap
report_size bits octets fms bitmap (inl k) e =
    let f : middle_user octets ≡ Ok (Report fms bitmap) = sym (ap (λ (n : ℕ). user_at n octets) k) ∙ e in
    rw k (middle_size octets fms bitmap f)
report_size bits octets fms bitmap (inr k) e =
    let f : long_user octets ≡ Ok (Report fms bitmap) = sym (ap (λ (n : ℕ). user_at n octets) k) ∙ e in
    rw k (long_size octets fms bitmap f)

-- ---- what is told as it is taken

told_report : (bits lcid : ℕ) (octets : List ℕ) (x : Result UserPdu PdcpRefusal) → IsKind (AmKind bits)
    → user_at bits octets ≡ x → (fms : ℕ) (bitmap : List ℕ)
    → heard_user x ≡ Told fms bitmap
    → flat_map (given_in bits) (report_told lcid x) ≡ record { count = None; size = length octets } ∷ []
told_report bits lcid octets (Err refusal) k e fms bitmap h = cc
told_report bits lcid octets (Ok (Sdu sn text)) k e fms bitmap h = cc
told_report bits lcid octets (Ok (Report f bits')) k e fms bitmap h =
    ap (λ (n : ℕ). record { count = None; size = n } ∷ []) (sym (report_size bits octets f bits' k e))

told_one : (bits lcid : ℕ) (p : Protection) (count : Option ℕ) (text : List ℕ) → IsKind (AmKind bits)
    → (count ≡ None → IsReport (AmKind bits) text)
    → flat_map (given_in bits) (next_told lcid (AmKind bits) (Some (written (AmKind bits) p count text)))
    ≡ record { count = count; size = length (written (AmKind bits) p count text).octets } ∷ []
unfolding heard
told_one bits lcid p None text k right =
    let r = right refl in told_report bits lcid text (user_at bits text) k refl r.fms r.bitmap r.is
told_one bits lcid p (Some count) text k right =
    ap (λ (n : ℕ). record { count = Some count; size = n } ∷ []) (sym (sdu_size bits p count text k))

first_told : (bits : ℕ) (e : Ends) (o : Offer) (os : List Offer) → IsKind (AmKind bits) → e.kind ≡ AmKind bits
    → e.tx.kind ≡ AmKind bits → offers e.tx ≡ o ∷ os
    → IsRight (AmKind bits) o
    → flat_map (given_in bits) (taking_told e) ≡ given_as e.tx o ∷ []
unfolding taking_told pdcp_taking
first_told bits e o os k kind tx q right =
    ap (λ (l : List Offer). flat_map (given_in bits)
    (next_told e.lcid e.kind
    (option_map (λ o. written e.tx.kind e.tx.protection o.count o.text) (slice_get l 0)))) q
    ∙ (ap
    (λ (x : PdcpKind). flat_map (given_in bits)
    (next_told e.lcid x (Some (written e.tx.kind e.tx.protection o.count o.text)))) kind
    ∙ (ap
    (λ (x : PdcpKind). flat_map (given_in bits)
    (next_told e.lcid (AmKind bits) (Some (written x e.tx.protection o.count o.text)))) tx
    ∙ (told_one bits e.lcid e.tx.protection o.count o.text k right
    ∙ ap (λ (x : PdcpKind). record {
      count = o.count;
      size = length (written x e.tx.protection o.count o.text).octets;
    } ∷ []) (sym tx))))

-- ---- RLC takes PDUs, and so many are told

-- what is picked from events, and what it is of a PDU that is taken
module _ {X : Type 0} (pick : Event → List X) (made : Sending → Offer → List X) (Fits : Ends → Type 0) (IsFine : Offer
    → Type 0)
    (stays : (d : Ends) → Fits d → Fits (after_pdcp d)) (same : (s t : Sending) (o : Offer) → AreSame s t
    → made t o ≡ made s o)
    (first : (e : Ends) (o : Offer) (os : List Offer) → Fits e → IsFine o → offers e.tx ≡ o ∷ os
    → flat_map pick (taking_told e) ≡ made e.tx o)
    (sends : (lcid : ℕ) (way : How) (sn : ℕ) → pick (events.Send lcid way sn) ≡ [])
    (starts : (lcid : ℕ) (clock : Clock) → pick (events.Start lcid clock) ≡ [])
    (waits : (lcid : ℕ) (why : Why) → pick (events.Wait lcid why) ≡ [])
  where
    record Tells (os : List Offer) (d e : Ends) (before after : List Event) : Type 0 where
      n : ℕ
      few : n ≤ length os
      left : offers e.tx ≡ drop n os
      told_is : flat_map pick after ≡ flat_map pick before ++ flat_map (made d.tx) (take n os)

    no_more : (os : List Offer) (d : Ends) (before : List Event) → offers d.tx ≡ os → Tells os d d before before
    no_more os d before q = record {
      n = zero;
      few = omega arith;
      left = q;
      told_is = sym (append-nil (flat_map pick before));
    }

    same_made : (s t : Sending) (os : List Offer) → AreSame s t → flat_map (made t) os ≡ flat_map (made s) os
    same_made s t [] h = refl
    same_made s t (o ∷ os) h = ap (λ (xs : List X). xs ++ flat_map (made t) os) (same s t o h)
        ∙ ap (λ (xs : List X). made s o ++ xs) (same_made s t os h)

    one_more : (o : Offer) (os : List Offer) (d e : Ends) (before after : List Event) → Fits d → IsFine o
        → offers d.tx ≡ o ∷ os
        → Tells os (after_pdcp d) e (before ++ taking_told d) after → Tells (o ∷ os) d e before after
    one_more o os d e before after fits fine q t = record {
      n = suc t.n;
      few = omega (arith, t.few);
      left = t.left;
      told_is =
          t.told_is
          ∙ (ap (λ (xs : List X). xs ++ flat_map (made (after_pdcp d).tx) (take t.n os))
          (flat_map-append pick before (taking_told d))
          ∙ (ap (λ (xs : List X). (flat_map pick before ++ xs) ++ flat_map (made (after_pdcp d).tx) (take t.n os))
          (first d o os fits fine q)
          ∙ (ap (λ (s : Sending). (flat_map pick before ++ made d.tx o) ++ flat_map (made s) (take t.n os))
          (pdcp_took d)
          ∙ (ap (λ (xs : List X). (flat_map pick before ++ made d.tx o) ++ xs)
          (same_made d.tx (took d.tx) (take t.n os) (took_same d.tx))
          ∙ append_assoc (flat_map pick before) (made d.tx o) (flat_map (made d.tx) (take t.n os))))));
    }

    by_hunger : (b : Bool) (o : Offer) (os : List Offer) (w v : Work) → Fits w.pdcp → IsFine o
        → offers w.pdcp.tx ≡ o ∷ os → Tells os (fed w).pdcp v.pdcp (fed w).events v.events
        → Tells (o ∷ os) w.pdcp (if b then v else w).pdcp w.events (if b then v else w).events
    by_hunger true o os w v fits fine q t = one_more o os w.pdcp v.pdcp w.events v.events fits fine q t
    by_hunger false o os w v fits fine q t = no_more (o ∷ os) w.pdcp w.events q

    feeds_tell : (os : List Offer) (size : ℕ) (held : Option ℕ) (w : Work) → Fits w.pdcp → AllByRecursion IsFine os
        → offers w.pdcp.tx ≡ os
        → Tells os w.pdcp (feeds os size held w).pdcp w.events (feeds os size held w).events
    feeds_tell [] size held w fits fine q = no_more [] w.pdcp w.events q
    feeds_tell (o ∷ os) size held w fits fine q =
        by_hunger (hungry w.tx size held) o os w (feeds os size held (fed w)) fits fine.0 q
        (feeds_tell os size held (fed w) (stays w.pdcp fits) fine.1
        (ap offers (pdcp_took w.pdcp) ∙ left_of 1 w.pdcp.tx ∙ ap (drop 1) q))

    -- what else is told as RLC writes
    data_none : (lcid : ℕ) (t : Taken) → flat_map pick (data_told lcid t) ≡ []
    data_none lcid (Piece number anew polled octets) =
        ap (λ (xs : List X). xs ++ flat_map pick (if polled then events.Start lcid Poll ∷ [] else []))
        (sends lcid (if anew then how.New else how.Re) (number % 1024)) ∙ by polled
      where
        by : (b : Bool) → flat_map pick (if b then events.Start lcid Poll ∷ [] else []) ≡ []
        by true = ap (λ (xs : List X). xs ++ []) (starts lcid Poll)
        by false = refl
    data_none lcid Idle = refl
    data_none lcid Small = ap (λ (xs : List X). xs ++ []) (waits lcid why.Small)
    data_none lcid Shut = ap (λ (xs : List X). xs ++ []) (waits lcid why.Shut)
    data_none lcid Held = ap (λ (xs : List X). xs ++ []) (waits lcid why.Held)
    data_none lcid Stopped = ap (λ (xs : List X). xs ++ []) (waits lcid why.Stopped)

    status_none : (lcid : ℕ) (has : Bool) (r : Receiver) (share : ℕ) → flat_map pick (status_told lcid has r share) ≡ []
    status_none lcid has r share = by (writes_status r share) has
      where
        sn : ℕ
        sn = ack r (share - 3) % 1024

        by : (b c : Bool)
            → flat_map pick (if b then events.Send lcid how.Status (ack r (share - 3) % 1024)
            ∷ (if c then events.Start lcid Prohibit ∷ [] else []) else []) ≡ []
        by true true =
            ap (λ (xs : List X). xs ++ flat_map pick (events.Start lcid Prohibit ∷ [])) (sends lcid how.Status sn)
            ∙ ap (λ (xs : List X). xs ++ []) (starts lcid Prohibit)
        by true false = ap (λ (xs : List X). xs ++ []) (sends lcid how.Status sn)
        by false c = refl

    pub takes_tell : (b : State) (share : ℕ) (held : Option ℕ) → Fits b.pdcp → AllByRecursion IsFine (offers b.pdcp.tx)
        → flat_map pick (told b.pdcp.lcid (Am b) share held)
        ≡ flat_map (made b.pdcp.tx) (takes (Am b) (Take share held))
    unfolding told taking flow_after
    takes_tell b share held fits fine =
        let os = offers b.pdcp.tx in
        let status = status_told b.pdcp.lcid (has_prohibit b) b.rx share in
        let room = data_size b share in
        let f = feeding b share held in
        let t = feeds_tell os room held (work b.pdcp b.tx status) fits fine refl in
        let off = taken_off t.n os (offers (after_taking b share held).pdcp.tx) t.few
        (ap (λ (e : Ends). offers e.tx) (take_left b share held) ∙ t.left) in
        flat_map-append pick f.events (data_told f.pdcp.lcid (answer_of f room held))
        ∙ (ap (λ (xs : List X). flat_map pick f.events ++ xs) (data_none f.pdcp.lcid (answer_of f room held))
        ∙ (append-nil (flat_map pick f.events)
        ∙ (t.told_is
        ∙ (ap (λ (xs : List X). xs ++ flat_map (made b.pdcp.tx) (take t.n os))
        (status_none b.pdcp.lcid (has_prohibit b) b.rx share)
        ∙ ap (λ (xs : List Offer). flat_map (made b.pdcp.tx) xs) (sym off)))))

-- ---- the PDUs by their sizes

record IsOf (bits : ℕ) (e : Ends) : Type 0 where
  kind : e.kind ≡ AmKind bits
  tx : e.tx.kind ≡ AmKind bits

pub same_given : (s t : Sending) (os : List Offer) → AreSame s t → map (given_as t) os ≡ map (given_as s) os
same_given s t os h =
    ap (λ k. map (λ (o : Offer). record {
      count = o.count;
      size = length (written k t.protection o.count o.text).octets;
    }) os) h.kind
    ∙ ap (λ p. map (λ (o : Offer). record { count = o.count; size = length (written s.kind p o.count o.text).octets })
    os) h.protection

each_one : (s : Sending) (os : List Offer) → flat_map (λ o. given_as s o ∷ []) os ≡ map (given_as s) os
each_one s [] = refl
each_one s (o ∷ os) = ap (λ (gs : List Given). given_as s o ∷ gs) (each_one s os)

pub takes_are_told : (bits : ℕ) (b : State) (share : ℕ) (held : Option ℕ) → IsKind (AmKind bits)
    → b.pdcp.kind ≡ AmKind bits → b.pdcp.tx.kind ≡ AmKind bits
    → AllByRecursion (IsRight (AmKind bits)) (offers b.pdcp.tx)
    → flat_map (given_in bits) (told b.pdcp.lcid (Am b) share held)
    ≡ map (given_as b.pdcp.tx) (takes (Am b) (Take share held))
takes_are_told bits b share held k kind tx right =
    takes_tell (given_in bits) (λ s o. given_as s o ∷ []) (IsOf bits) (IsRight (AmKind bits))
    (λ d h. record {
      kind = (pdcp_rest d).0 ∙ h.kind;
      tx = ap (λ (s : Sending). s.kind) (pdcp_took d) ∙ ((took_same d.tx).kind ∙ h.tx);
    })
    (λ s t o h. same_given s t (o ∷ []) h)
    (λ e o os h fine q. first_told bits e o os k h.kind h.tx q fine) (λ lcid way sn. refl) (λ lcid clock. refl)
    (λ lcid why. refl)
    b share held (record { kind = kind; tx = tx }) right
    ∙ each_one b.pdcp.tx (takes (Am b) (Take share held))

-- only the report that is owed has no COUNT
all_then : (kind : PdcpKind) (xs ys : List Offer) → AllByRecursion (IsRight kind) xs
    → AllByRecursion (IsRight kind) ys → AllByRecursion (IsRight kind) (xs ++ ys)
all_then kind [] ys h k = k
all_then kind (x ∷ xs) ys h k = (h.0, all_then kind xs ys h.1 k)

again_right : (kind : PdcpKind) (ss : List Sent) → AllByRecursion (IsRight kind) (map again_offer ss)
again_right kind [] = tt
again_right kind (s ∷ ss) = (λ e. let no' : Some s.count ≡ None = e in cc, again_right kind ss)

new_right : (kind : PdcpKind) (n : ℕ) (ws : List Waits) → AllByRecursion (IsRight kind) (new_offers n ws)
new_right kind n [] = tt
new_right kind n (w ∷ ws) = (λ e. let no' : Some n ≡ None = e in cc, new_right kind (n + 1) ws)

owed_right : (kind : PdcpKind) (o : Option (List ℕ)) → Owes kind o → AllByRecursion (IsRight kind) (owed_offers o)
owed_right kind None h = tt
owed_right kind (Some report) h = (λ e. h, tt)

pub offers_right : (s : Sending) → Owes s.kind s.owed → AllByRecursion (IsRight s.kind) (offers s)
unfolding offers
offers_right s h =
    let news = new_offers s.next (take (s.bound - s.next) s.waiting) in
    let first = owed_right s.kind s.owed h in
    all_then s.kind (owed_offers s.owed ++ map again_offer s.again) news
    (all_then s.kind (owed_offers s.owed) (map again_offer s.again) first (again_right s.kind s.again))
    (new_right s.kind s.next (take (s.bound - s.next) s.waiting))
