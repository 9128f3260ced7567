-- In which order a bearer tells of what it writes into a new block.
use Rattle.std.proofs.Common.{◌≡◌, inl, inr, ℕ, ◌-◌, ◌%◌, Bool, true, false, if◌then◌else◌, Option, Some, None}
use Rattle.std.proofs.Common.{option_map, Result, Ok, Err, List, [], ◌∷◌, ◌++◌, map, take, length, append-nil}
use Rattle.std.proofs.Common.{append_assoc, refl, ap, sym, ◌∙◌}
use Rattle.std.specs.Prelude.{slice_get}
use Rattle.bearer.specs.Acknowledged.State.{State as AmBearer, Work, work}
use Rattle.bearer.specs.Acknowledged.Taking.{writes_status, prohibit_told, status_told, has_prohibit, fed as am_fed}
use Rattle.bearer.specs.Acknowledged.Taking.{feeds as am_feeds, how_of, poll_told, data_told as am_data_told, data_size}
use Rattle.bearer.specs.Acknowledged.Taking.{feeding as am_feeding, answer_of, taking as am_taking}
use Rattle.bearer_pdcp.specs.Ends.{Ends}
use Rattle.bearer_pdcp.specs.Taking.{report_told, own_report_told, next_told, taking_told, after_taking}
use Rattle.bearer_types.specs.declared.Event.{Event}
use Rattle.bearer_types.specs.declared.Event.TheVariants as events
use Rattle.bearer.specs.Unacknowledged.State.{State as UmBearer}
use Rattle.bearer.specs.Unacknowledged.Taking.{Feeding, fed as um_fed, feeds as um_feeds, why_idle, idle_told}
use Rattle.bearer.specs.Unacknowledged.Taking.{data_told as um_data_told, size_in, feeding as um_feeding}
use Rattle.bearer.specs.Unacknowledged.Taking.{has_more as um_has_more, taking as um_taking}
use Rattle.l2_types.specs.declared.Clock.TheVariants.{Poll, Prohibit}
use Rattle.l2_types.specs.declared.How.TheVariants as how
use Rattle.l2_types.specs.declared.Waits.{Waits}
use Rattle.l2_types.specs.declared.Waits.TheVariants as waits
use Rattle.pdcp_tx_store.specs.declared.given.Sent.{Sent}
use Rattle.pdcp_tx_store.specs.Waiting.{Waits as Waiting}
use Rattle.pdcp_pdu.specs.declared.PdcpKind.{PdcpKind}
use Rattle.pdcp_pdu.specs.declared.PdcpKind.TheVariants as pdcp
use Rattle.pdcp_pdu.specs.declared.PdcpRefusal.{PdcpRefusal}
use Rattle.pdcp_pdu.specs.Pdus.{UserPdu, Sdu, Report}
use Rattle.pdcp_pdu.specs.Reading.{user_at}
use Rattle.pdcp_sec.specs.Protection.{Protection}
use Rattle.pdcp_tx.specs.State.{State as Sending, Offer, owed_offers, again_offer, new_offers, offers, written, taking}
use Rattle.pdcp_tx.specs.State.{took, took_owed, took_again, took_new}
use Rattle.rlc_am_tx.specs.Need.{hungry}
use Rattle.rlc_pdu.specs.declared.Taken.{Taken}
use Rattle.rlc_pdu.specs.declared.Taken.TheVariants.{Piece, Idle, Small, Shut, Held, Stopped}
use Rattle.rlc_um.specs.Sender.{is_hungry, taken as um_taken}
use Rattle.law_words.specs.BearerOrder.{OfEvents, a_status, a_report, a_take, a_data_pdu, a_wait, in_a_block}
use Rattle.law_words.specs.Sequences.{just, ◌then◌, ◌or◌, maybe, many}
use Rattle.law_bearer.proofs.AnyBearer.Sequences.{both, none, many_none, many_both, many_one, Behind, behind_none}
use Rattle.law_bearer.proofs.AnyBearer.Heard.{maybe_if, as_of}

-- ---- what RLC takes of PDCP: a report first, and then SDUs

report_in : (lcid : ℕ) (r : Result UserPdu PdcpRefusal) → maybe (a_report lcid) (report_told lcid r)
report_in lcid (Err refusal) = inl refl
report_in lcid (Ok (Sdu sn octets)) = inl refl
report_in lcid (Ok (Report fms bitmap)) = inr (fms, (bitmap, refl))

own_report_in : (lcid : ℕ) (kind : PdcpKind) (pdu : List ℕ) → maybe (a_report lcid) (own_report_told lcid kind pdu)
own_report_in lcid pdcp.Srb pdu = inl refl
own_report_in lcid (pdcp.Um bits) pdu = report_in lcid (user_at bits pdu)
own_report_in lcid (pdcp.Am bits) pdu = report_in lcid (user_at bits pdu)

-- no report is owed
sdus_in : (lcid : ℕ) (kind wire : PdcpKind) (protection : Protection) (again : List Sent) (n : ℕ) (news : List Waiting)
    → many (a_take lcid)
    (next_told lcid kind
    (option_map (λ (o : Offer). written wire protection o.count o.text)
    (slice_get (map again_offer again ++ new_offers n news) 0)))
sdus_in lcid kind wire protection [] n [] = many_none (a_take lcid)
sdus_in lcid kind wire protection [] n (w ∷ ws) =
    many_one (a_take lcid) (events.Take lcid (Some n) (length w.sdu) ∷ []) (Some n, (length w.sdu, refl))
sdus_in lcid kind wire protection (x ∷ xs) n news =
    many_one (a_take lcid) (events.Take lcid (Some x.count) (length x.octets) ∷ []) (
      Some x.count,
      (length x.octets, refl),
    )

abbrev Fed : ℕ → OfEvents
Fed l = maybe (a_report l) then many (a_take l)

first_in : (lcid : ℕ) (kind wire : PdcpKind) (protection : Protection) (owed : Option (List ℕ)) (again : List Sent)
    (n : ℕ) (news : List Waiting)
    → Fed lcid
    (next_told lcid kind
    (option_map (λ (o : Offer). written wire protection o.count o.text)
    (slice_get (owed_offers owed ++ map again_offer again ++ new_offers n news) 0)))
first_in lcid kind wire protection None again n news =
    both (maybe (a_report lcid)) (many (a_take lcid)) [] _ (none (a_report lcid))
    (sdus_in lcid kind wire protection again n news)
first_in lcid kind wire protection (Some report) again n news = record {
  first = own_report_told lcid kind report;
  second = [];
  told_are = sym (append-nil (own_report_told lcid kind report));
  is_first = own_report_in lcid kind report;
  is_second = many_none (a_take lcid);
}

taking_in : (l : ℕ) (e : Ends) → e.lcid ≡ l → Fed l (taking_told e)
unfolding taking_told taking offers
taking_in l e q =
    as_of Fed e.lcid l (taking_told e) q
    (first_in e.lcid e.kind e.tx.kind e.tx.protection e.tx.owed e.tx.again e.tx.next
    (take (e.tx.bound - e.tx.next) e.tx.waiting))

-- ---- no report is owed behind what is taken

new_owed : (ws : List Waiting) (s : Sending) → (took_new ws s).owed ≡ s.owed
new_owed [] s = refl
new_owed (w ∷ ws) s = refl

again_owed : (xs : List Sent) (s : Sending) → (took_again xs s).owed ≡ s.owed
again_owed [] s = new_owed (take (s.bound - s.next) s.waiting) s
again_owed (x ∷ xs) s = refl

owed_by : (o : Option (List ℕ)) (s : Sending) → s.owed ≡ o → (took_owed o s).owed ≡ None
owed_by None s e = again_owed s.again s ∙ e
owed_by (Some report) s e = refl

no_owed : (e : Ends) → (after_taking e).tx.owed ≡ None
unfolding after_taking took
no_owed e = owed_by e.tx.owed e.tx refl

-- then only SDUs are taken
taking_sdus : (l : ℕ) (e : Ends) → e.lcid ≡ l → e.tx.owed ≡ None → many (a_take l) (taking_told e)
unfolding taking_told taking offers
taking_sdus l e q none' =
    as_of (λ (n : ℕ). many (a_take n)) e.lcid l (taking_told e) q
    (rw none' (sdus_in e.lcid e.kind e.tx.kind e.tx.protection e.tx.again e.tx.next
    (take (e.tx.bound - e.tx.next) e.tx.waiting)))

kept_by : (l : ℕ) (e : Ends) → e.lcid ≡ l → (after_taking e).lcid ≡ l
unfolding after_taking
kept_by l e q = q

none_fed : (l : ℕ) → Fed l []
none_fed l = both (maybe (a_report l)) (many (a_take l)) [] [] (none (a_report l)) (many_none (a_take l))

behind_fed : (l : ℕ) (told a all : List Event) → Fed l a → Behind (told ++ a) (many (a_take l)) all
    → Behind told (Fed l) all
behind_fed l told a all f k = record {
  rest = a ++ k.rest;
  all_are = k.all_are ∙ append_assoc told a k.rest;
  is_rest = record {
    first = f.first;
    second = f.second ++ k.rest;
    told_are = ap (λ (es : List Event). es ++ k.rest) f.told_are ∙ append_assoc f.first f.second k.rest;
    is_first = f.is_first;
    is_second = many_both (a_take l) f.second k.rest f.is_second k.is_rest;
  };
}

behind_joined : (told a : List Event) (A : OfEvents) (all : List Event) → many A a → Behind (told ++ a) (many A) all
    → Behind told (many A) all
behind_joined told a A all m k =
    record {
      rest = a ++ k.rest;
      all_are = k.all_are ∙ append_assoc told a k.rest;
      is_rest = many_both A a k.rest m k.is_rest;
    }

-- ---- an unacknowledged bearer

um_same : (b : Bool) (f g : Feeding) (l : ℕ) → f.pdcp.lcid ≡ l → g.pdcp.lcid ≡ l → (if b then g else f).pdcp.lcid ≡ l
um_same true f g l p q = q
um_same false f g l p q = p

pub um_kept : (l : ℕ) (os : List Offer) (size : ℕ) (held : Option ℕ) (f : Feeding) → f.pdcp.lcid ≡ l
    → (um_feeds os size held f).pdcp.lcid ≡ l
unfolding after_taking
um_kept l [] size held f q = q
um_kept l (o ∷ os) size held f q =
    um_same (is_hungry f.tx size held) f (um_feeds os size held (um_fed f)) l q (um_kept l os size held (um_fed f) q)

um_if : (S : OfEvents) (told : List Event) (b : Bool) (f g : Feeding) → Behind told S f.events
    → Behind told S g.events → Behind told S (if b then g else f).events
um_if S told true f g p q = q
um_if S told false f g p q = p

um_sdus : (l : ℕ) (os : List Offer) (size : ℕ) (held : Option ℕ) (f : Feeding) → f.pdcp.lcid ≡ l
    → f.pdcp.tx.owed ≡ None → Behind f.events (many (a_take l)) (um_feeds os size held f).events
um_sdus l [] size held f q n = behind_none f.events (many (a_take l)) (many_none (a_take l))
um_sdus l (o ∷ os) size held f q n =
    let next = um_feeds os size held (um_fed f) in
    um_if (many (a_take l)) f.events (is_hungry f.tx size held) f next
    (behind_none f.events (many (a_take l)) (many_none (a_take l)))
    (behind_joined f.events (taking_told f.pdcp) (a_take l) next.events (taking_sdus l f.pdcp q n)
    (um_sdus l os size held (um_fed f) (kept_by l f.pdcp q) (no_owed f.pdcp)))

um_fed_in : (l : ℕ) (os : List Offer) (size : ℕ) (held : Option ℕ) (f : Feeding) → f.pdcp.lcid ≡ l
    → Behind f.events (Fed l) (um_feeds os size held f).events
um_fed_in l [] size held f q = behind_none f.events (Fed l) (none_fed l)
um_fed_in l (o ∷ os) size held f q =
    let next = um_feeds os size held (um_fed f) in
    um_if (Fed l) f.events (is_hungry f.tx size held) f next (behind_none f.events (Fed l) (none_fed l))
    (behind_fed l f.events (taking_told f.pdcp) next.events (taking_in l f.pdcp q)
    (um_sdus l os size held (um_fed f) (kept_by l f.pdcp q) (no_owed f.pdcp)))

abbrev Ended : ℕ → OfEvents
Ended l = maybe (a_data_pdu l or a_wait l)

sent_in : (l sn : ℕ) (told : List Event) → maybe (just (events.Start l Poll)) told
    → a_data_pdu l (events.Send l how.New sn ∷ told)
sent_in l sn told p =
    inr (record {
      first = events.Send l how.New sn ∷ [];
      second = told;
      told_are = refl;
      is_first = (sn, inl refl);
      is_second = p;
    })

um_idle_in : (l : ℕ) (more : Bool) (why : Waits) → Ended l (idle_told l more why)
um_idle_in l true why = inr (inr (why, refl))
um_idle_in l false why = inl refl

um_data_in : (l bits : ℕ) (more : Bool) (why : Waits) (t : Taken) → Ended l (um_data_told l bits more why t)
um_data_in l bits more why (Piece number first polled octets) = inr (inl (sent_in l _ [] (inl refl)))
um_data_in l bits more why Idle = um_idle_in l more why
um_data_in l bits more why Small = inr (inr (waits.Small, refl))
um_data_in l bits more why Shut = inr (inr (waits.Shut, refl))
um_data_in l bits more why Held = inr (inr (waits.Held, refl))
um_data_in l bits more why Stopped = inr (inr (waits.Stopped, refl))

-- what is fed and what is written then, behind a STATUS or none
block_in : (l : ℕ) (status fed data' : List Event) → maybe (a_status l) status → Behind status (Fed l) fed
    → Ended l data' → in_a_block l (fed ++ data')
block_in l status fed data' s k d =
    let f = k.is_rest in
    record {
      first = status;
      second = f.first ++ (f.second ++ data');
      told_are = ap (λ (es : List Event). es ++ data') (k.all_are ∙ ap (λ (es : List Event). status ++ es) f.told_are)
          ∙ append_assoc status (f.first ++ f.second) data'
          ∙ ap (λ (es : List Event). status ++ es) (append_assoc f.first f.second data');
      is_first = s;
      is_second = both (maybe (a_report l)) (many (a_take l) then Ended l) f.first (f.second ++ data') f.is_first
          (both (many (a_take l)) (Ended l) f.second data' f.is_second d);
    }

pub um_in : (l : ℕ) (b : UmBearer) (share : ℕ) (held : Option ℕ) → b.pdcp.lcid ≡ l
    → in_a_block l (um_taking b share held)
unfolding um_taking
um_in l b share held q =
    let begin : Feeding = record { pdcp = b.pdcp; tx = b.tx; events = [] } in
    let f = um_feeding b share held in
    let told = um_data_told f.pdcp.lcid b.bits (um_has_more f.pdcp) (why_idle f.tx held)
    (um_taken f.tx (size_in share) held) in
    block_in l [] f.events told (none (a_status l)) (um_fed_in l (offers b.pdcp.tx) (size_in share) held begin q)
    (as_of Ended f.pdcp.lcid l told (um_kept l (offers b.pdcp.tx) (size_in share) held begin q)
    (um_data_in f.pdcp.lcid b.bits (um_has_more f.pdcp) (why_idle f.tx held)
    (um_taken f.tx (size_in share) held)))

-- ---- an acknowledged bearer

am_same : (b : Bool) (f g : Work) (l : ℕ) → f.pdcp.lcid ≡ l → g.pdcp.lcid ≡ l → (if b then g else f).pdcp.lcid ≡ l
am_same true f g l p q = q
am_same false f g l p q = p

pub am_kept : (l : ℕ) (os : List Offer) (size : ℕ) (held : Option ℕ) (w : Work) → w.pdcp.lcid ≡ l
    → (am_feeds os size held w).pdcp.lcid ≡ l
unfolding after_taking
am_kept l [] size held w q = q
am_kept l (o ∷ os) size held w q =
    am_same (hungry w.tx size held) w (am_feeds os size held (am_fed w)) l q (am_kept l os size held (am_fed w) q)

am_if : (S : OfEvents) (told : List Event) (b : Bool) (f g : Work) → Behind told S f.events → Behind told S g.events
    → Behind told S (if b then g else f).events
am_if S told true f g p q = q
am_if S told false f g p q = p

am_sdus : (l : ℕ) (os : List Offer) (size : ℕ) (held : Option ℕ) (w : Work) → w.pdcp.lcid ≡ l → w.pdcp.tx.owed ≡ None
    → Behind w.events (many (a_take l)) (am_feeds os size held w).events
am_sdus l [] size held w q n = behind_none w.events (many (a_take l)) (many_none (a_take l))
am_sdus l (o ∷ os) size held w q n =
    let next = am_feeds os size held (am_fed w) in
    am_if (many (a_take l)) w.events (hungry w.tx size held) w next
    (behind_none w.events (many (a_take l)) (many_none (a_take l)))
    (behind_joined w.events (taking_told w.pdcp) (a_take l) next.events (taking_sdus l w.pdcp q n)
    (am_sdus l os size held (am_fed w) (kept_by l w.pdcp q) (no_owed w.pdcp)))

am_fed_in : (l : ℕ) (os : List Offer) (size : ℕ) (held : Option ℕ) (w : Work) → w.pdcp.lcid ≡ l
    → Behind w.events (Fed l) (am_feeds os size held w).events
am_fed_in l [] size held w q = behind_none w.events (Fed l) (none_fed l)
am_fed_in l (o ∷ os) size held w q =
    let next = am_feeds os size held (am_fed w) in
    am_if (Fed l) w.events (hungry w.tx size held) w next (behind_none w.events (Fed l) (none_fed l))
    (behind_fed l w.events (taking_told w.pdcp) next.events (taking_in l w.pdcp q)
    (am_sdus l os size held (am_fed w) (kept_by l w.pdcp q) (no_owed w.pdcp)))

first_or_again : (l sn : ℕ) (first : Bool)
    → (just (events.Send l how.New sn) or just (events.Send l how.Re sn)) (events.Send l (how_of first) sn ∷ [])
first_or_again l sn true = inl refl
first_or_again l sn false = inr refl

am_data_in : (l : ℕ) (t : Taken) → Ended l (am_data_told l t)
am_data_in l (Piece number first polled octets) =
    let sn = number % 1024 in
    inr
    (inl
    (inr (record {
      first = events.Send l (how_of first) sn ∷ [];
      second = poll_told l polled;
      told_are = refl;
      is_first = (sn, first_or_again l sn first);
      is_second = maybe_if polled (events.Start l Poll);
    })))
am_data_in l Idle = inl refl
am_data_in l Small = inr (inr (waits.Small, refl))
am_data_in l Shut = inr (inr (waits.Shut, refl))
am_data_in l Held = inr (inr (waits.Held, refl))
am_data_in l Stopped = inr (inr (waits.Stopped, refl))

status_if : (l ack : ℕ) (b has : Bool)
    → maybe (a_status l) (if b then events.Send l how.Status ack ∷ prohibit_told l has else [])
status_if l ack true has =
    inr (record {
      first = events.Send l how.Status ack ∷ [];
      second = prohibit_told l has;
      told_are = refl;
      is_first = (ack, refl);
      is_second = maybe_if has (events.Start l Prohibit);
    })
status_if l ack false has = inl refl

pub am_in : (l : ℕ) (b : AmBearer) (share : ℕ) (held : Option ℕ) → b.pdcp.lcid ≡ l
    → in_a_block l (am_taking b share held)
unfolding am_taking
am_in l b share held q =
    let size = data_size b share in
    let status = status_told b.pdcp.lcid (has_prohibit b) b.rx share in
    let begin = work b.pdcp b.tx status in
    let w = am_feeding b share held in
    let told = am_data_told w.pdcp.lcid (answer_of w size held) in
    block_in l status w.events told
    (as_of (λ (n : ℕ). maybe (a_status n)) b.pdcp.lcid l status q
    (status_if b.pdcp.lcid _ (writes_status b.rx share) (has_prohibit b)))
    (am_fed_in l (offers b.pdcp.tx) size held begin q)
    (as_of Ended w.pdcp.lcid l told (am_kept l (offers b.pdcp.tx) size held begin q)
    (am_data_in w.pdcp.lcid (answer_of w size held)))
