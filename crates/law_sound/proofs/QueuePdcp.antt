-- PDCP's sender beside what is kept of the SDUs that wait, in each thing that it does; not of acknowledged data.
use Rattle.std.proofs.Common.{◌≡◌, ◌<◌, ◌+◌, ◌-◌, ◌%◌, ◌^◌, ◌==◌, ℕ, Bool, true, false, ◌&&◌, if◌then◌else◌}
use Rattle.std.proofs.Common.{List, [], ◌∷◌, IfSome, ◌++◌, length, map, drop, Option, Some, None, option_map, slice_get}
use Rattle.std.proofs.Common.{refl, ap, sym, subst, ◌∙◌, arith}
use Rattle.std.proofs.lemmas.Bool.Decides.{nat_tests}
use Rattle.std.proofs.lemmas.List.{length-append, map-append, take_all}
use Rattle.std.specs.List.{AllByRecursion}
use Rattle.bearer_pdcp.specs.Discarding.{tick_told, after_tick, late_told, without_late}
use Rattle.bearer_pdcp.specs.Ends.{Ends, begun as begun_pdcp}
use Rattle.bearer_pdcp.specs.Hearing.{after_hearing}
use Rattle.bearer_pdcp.specs.Lives.{restarted as restarted_pdcp}
use Rattle.bearer_pdcp.specs.Taking.{taken, taking_told, after_taking, next_told}
use Rattle.bearer_types.specs.declared.event.Event.{Event}
use Rattle.bearer_types.specs.declared.event.Event.TheVariants as events
use Rattle.eps_sec.specs.declared.Keys.{Keys}
use Rattle.l2_types.specs.declared.side.Side.{Side}
use Rattle.pdcp_pdu.specs.declared.PdcpKind.{PdcpKind}
use Rattle.pdcp_pdu.specs.declared.PdcpKind.TheVariants.{Srb, Um, Am}
use Rattle.pdcp_pdu.specs.Grammar.{data_header, srb_header}
use Rattle.pdcp_pdu.specs.Kinds.{is_am}
use Rattle.pdcp_rx.specs.declared.got.Cause.{Cause}
use Rattle.pdcp_sec.specs.Protection.{Protection, protection_of, ciphered_with}
use Rattle.pdcp_sec.proofs.Lengths.{length_ciphered_with}
use Rattle.pdcp_tx.specs.Pdus.{pdu as pdcp_pdu, mac_i}
use Rattle.pdcp_tx.specs.State.{State as Sending, Offer, submitted, confirmed, refusal, waiting_on, start, next_from}
use Rattle.pdcp_tx.specs.State.{new_offers, written, taking, took, took_new, is_overdue, after_late, ticked}
use Rattle.pdcp_tx.specs.State.{restarted as restarted_sending}
use Rattle.pdcp_tx.specs.declared.sender.Next.{Next}
use Rattle.pdcp_tx_store.specs.Waiting.{Waits}
use Rattle.pdu_show.specs.declared.kinds.Layout.{Layout}
use Rattle.pdu_show.specs.declared.kinds.Layout.TheVariants as layouts
use Rattle.journal_sent.specs.RightSent.{Flow, Sent, IsCountOf, IsSdu}
use Rattle.journal_sent.specs.SentFlows.{Cover, cover_as, cover_renewed, flow_begun, flow_renewed, flow_submitted}
use Rattle.journal_sent.specs.SentFlows.{flow_taken, gives_data, gives_first, is_count, is_data, is_first, is_sdu}
use Rattle.journal_sent.specs.SentFlows.{waiting_behind, with_covered}
use Rattle.journal_sent.specs.SentPdus.{histories, with_given}
use Rattle.law_bearer.proofs.AnyBearer.SenderCalls.{all_then}
use Rattle.law_given.proofs.WaitingBearers.{IsQueueing, queueing_passes, begun_queueing, heard_same, offers_wait}
use Rattle.law_node.proofs.Plain.{took_is, owes_nothing}
use Rattle.law_sound.proofs.QueueBeside.{IsQueueOf, AreRightHere, queue_over}
use Rattle.law_sound.proofs.SentSubmitted.{submitted_sized}

-- RLC is given a PDU
abbrev pub given_if : Option (List ℕ) → Sent → Sent
given_if None x = x
given_if (Some pdu) x = with_given histories pdu x

-- the SDUs that wait
abbrev sdus_of : List Waits → List (List ℕ)
sdus_of ws = map (λ (w : Waits). w.sdu) ws

abbrev covers : PdcpKind → Protection → Option Cover
covers kind protection = Some (record { kind = kind; protection = protection })

-- ---- a PDU has octets where its SDU has some

under_header : (header sdu : List ℕ) (p : Protection) (count : ℕ) → 0 < length sdu
    → 0 < length (header ++ ciphered_with p count sdu)
under_header header sdu p count some =
    omega (arith, length-append header (ciphered_with p count sdu), length_ciphered_with p count sdu, some)

pdu_some : (kind : PdcpKind) (p : Protection) (count : ℕ) (sdu : List ℕ) → 0 < length sdu
    → 0 < length (pdcp_pdu kind p count sdu)
unfolding pdcp_pdu
pdu_some Srb p count sdu some =
    under_header (srb_header 0 (count % 32)) (sdu ++ mac_i p count sdu) p count
    (omega (arith, length-append sdu (mac_i p count sdu), some))
pdu_some (Um bits) p count sdu some = under_header (data_header bits 0 (count % 2 ^ bits)) sdu p count some
pdu_some (Am bits) p count sdu some = under_header (data_header bits 0 (count % 2 ^ bits)) sdu p count some

-- ---- SDUs are discarded, the first that waits first

abbrev waiting_to : List Waits → Flow → Flow
waiting_to ws f = record f { waiting = sdus_of ws }

late_waits : (s : Sending) (w : Waits) (ws : List Waits) → s.waiting ≡ w ∷ ws → is_overdue s ≡ true
    → (after_late s).waiting ≡ ws
unfolding after_late
late_waits s w ws is late =
    ap (λ (b : Bool). if b then drop 1 s.waiting else s.waiting) late ∙ ap (λ (xs : List Waits). drop 1 xs) is

lates_over : (lcid : ℕ) (ws : List Waits) (s : Sending) (f : Flow) → s.waiting ≡ ws
    → queue_over (late_told lcid ws s) (waiting_to ws f) ≡ waiting_to (without_late ws s).waiting f
lates_over lcid [] s f is = ap (λ (xs : List Waits). waiting_to xs f) (sym is)
lates_over lcid (w ∷ ws) s f is =
    by (is_overdue s) (λ late. lates_over lcid ws (after_late s) f (late_waits s w ws is late))
  where
    by : (b : Bool) → (b ≡ true → queue_over (late_told lcid ws (after_late s)) (waiting_to ws f)
        ≡ waiting_to (without_late ws (after_late s)).waiting f)
        → queue_over (if b then events.Discard lcid (length w.sdu) ∷ late_told lcid ws (after_late s) else [])
        (waiting_to (w ∷ ws) f)
        ≡ waiting_to (if b then without_late ws (after_late s) else s).waiting f
    by true rest = rest refl
    by false rest = ap (λ (xs : List Waits). waiting_to xs f) (sym is)

lates_right : (lcid : ℕ) (ws : List Waits) (s : Sending) (f : Flow)
    → AreRightHere (late_told lcid ws s) (waiting_to ws f)
lates_right lcid [] s f = tt
lates_right lcid (w ∷ ws) s f = by (is_overdue s) (lates_right lcid ws (after_late s) f)
  where
    by : (b : Bool) → AreRightHere (late_told lcid ws (after_late s)) (waiting_to ws f)
        → AreRightHere (if b then events.Discard lcid (length w.sdu) ∷ late_told lcid ws (after_late s) else [])
        (waiting_to (w ∷ ws) f)
    by true rest = (omega arith, rest)
    by false rest = tt

late_protection : (ws : List Waits) (s : Sending) → (without_late ws s).protection ≡ s.protection
unfolding after_late
late_protection [] s = refl
late_protection (w ∷ ws) s = by (is_overdue s) (late_protection ws (after_late s))
  where
    by : (b : Bool) → (without_late ws (after_late s)).protection ≡ s.protection
        → (if b then without_late ws (after_late s) else s).protection ≡ s.protection
    by true rest = rest
    by false rest = refl

late_next : (ws : List Waits) (s : Sending) → (without_late ws s).next ≡ s.next
unfolding after_late
late_next [] s = refl
late_next (w ∷ ws) s = by (is_overdue s) (late_next ws (after_late s))
  where
    by : (b : Bool) → (without_late ws (after_late s)).next ≡ s.next
        → (if b then without_late ws (after_late s) else s).next ≡ s.next
    by true rest = rest
    by false rest = refl

late_sized : (ws : List Waits) (s : Sending) → s.waiting ≡ ws → AllByRecursion IsSdu (sdus_of ws)
    → AllByRecursion IsSdu (sdus_of (without_late ws s).waiting)
late_sized [] s is sizes = subst (λ (xs : List Waits). AllByRecursion IsSdu (sdus_of xs)) (sym is) sizes
late_sized (w ∷ ws) s is sizes =
    by (is_overdue s) (λ late. late_sized ws (after_late s) (late_waits s w ws is late) sizes.1)
  where
    by : (b : Bool) → (b ≡ true → AllByRecursion IsSdu (sdus_of (without_late ws (after_late s)).waiting))
        → AllByRecursion IsSdu (sdus_of (if b then without_late ws (after_late s) else s).waiting)
    by true rest = rest refl
    by false rest = subst (λ (xs : List Waits). AllByRecursion IsSdu (sdus_of xs)) (sym is) sizes

-- ---- what is kept where a life begins

kept_sized : (layout : Layout) (sdus : List (List ℕ)) → AllByRecursion IsSdu sdus
    → AllByRecursion IsSdu (waiting_behind layout sdus)
kept_sized layouts.Tm sdus h = tt
kept_sized (layouts.Um rlc_bits kind) sdus h = h
kept_sized (layouts.Am kind) sdus h = tt

-- COUNT begins at 0
none_given : (kind : PdcpKind) (next : ℕ) → is_am kind ≡ false → 0 ≡ next_from kind next
none_given Srb next off = refl
none_given (Um bits) next off = refl
none_given (Am bits) next off = absurd cc

module _ (kind : PdcpKind) (off : is_am kind ≡ false) where
  queueing_of : (e : Ends) (f : Flow) → IsQueueOf kind e f → IsQueueing kind e
  queueing_of e f h = record { plain = h.plain; room = h.room; wide = h.wide }

  -- the sender as it was, in what is kept of it
  still : (e d : Ends) (f : Flow) → d.tx.protection ≡ e.tx.protection → d.tx.waiting ≡ e.tx.waiting
      → d.tx.next ≡ e.tx.next → IsQueueing kind d → IsQueueOf kind e f → IsQueueOf kind d f
  still e d f protection waiting next q h = record {
    cover_is = h.cover_is ∙ ap (covers kind) (sym protection);
    waiting_is = h.waiting_is ∙ ap sdus_of (sym waiting);
    given_is = h.given_is ∙ sym next;
    sizes = h.sizes;
    plain = q.plain;
    room = q.room;
    wide = q.wide;
  }

  -- ---- RLC takes the first that waits, if there is one

  pub record TakesSo (e : Ends) (f : Flow) : Type 0 where
    pub right : AreRightHere (taking_told e) f
    pub queue : IsQueueOf kind (after_taking e) (queue_over (taking_told e) f)
    pub layout : (queue_over (taking_told e) f).layout ≡ f.layout
    pub floor : (queue_over (taking_told e) f).floor ≡ f.floor
    pub stream : (queue_over (taking_told e) f).stream ≡ given_if (taken e) f.stream
    pub some : (pdu : List ℕ) → taken e ≡ Some pdu → 0 < length pdu

  -- what it takes, by what waits
  taking_is : (e : Ends) (ws : List Waits) → e.tx.waiting ≡ ws → IsQueueing kind e
      → taking e.tx ≡ option_map (λ (o : Offer). written kind e.tx.protection o.count o.text)
      (slice_get (new_offers e.tx.next ws) 0)
  unfolding taking
  taking_is e ws is q =
      ap (λ (os : List Offer). option_map (λ (o : Offer). written e.tx.kind e.tx.protection o.count o.text)
      (slice_get os 0)) (offers_wait kind e q ∙ ap (new_offers e.tx.next) is)
      ∙ ap (λ (k : PdcpKind). option_map (λ (o : Offer). written k e.tx.protection o.count o.text)
      (slice_get (new_offers e.tx.next ws) 0)) q.plain.sender.kind_is

  after_is : (e : Ends) (ws : List Waits) → e.tx.waiting ≡ ws → IsQueueing kind e → took e.tx ≡ took_new ws e.tx
  after_is e ws is q =
      took_is kind off e.tx q.plain.sender
      ∙ ap (λ (xs : List Waits). took_new xs e.tx)
      (take_all (e.tx.bound - e.tx.next) e.tx.waiting (omega (arith, q.room, q.wide)) ∙ is)

  -- the first that waits is given
  abbrev giving : Ends → Waits → List Waits → Flow → Flow
  giving e w ws f = record f {
    waiting = sdus_of ws;
    given = f.given + 1;
    stream = with_given histories (pdcp_pdu kind e.tx.protection e.tx.next w.sdu) f.stream;
  }

  is_first_so : (e : Ends) (w : Waits) (ws : List Waits) (f : Flow) → f.waiting ≡ w.sdu ∷ sdus_of ws → IsSdu w.sdu
      → IsQueueOf kind e f → is_first (Some e.tx.next) (length w.sdu) f.waiting f ≡ true
  is_first_so e w ws f waits size h =
      let n = e.tx.next in
      let len = length w.sdu in
      let sized : is_sdu w.sdu ≡ true = grind (arith, nat_tests, size.0, size.1) in
      let own : (len == len) ≡ true = grind (arith, nat_tests) in
      let counted : (n == f.given) ≡ true = grind (arith, nat_tests, h.given_is) in
      ap (λ (xs : List (List ℕ)). is_first (Some n) len xs f) waits
      ∙ ap (λ (b : Bool). b && ((len == len) && is_count f.cover f.given (Some n))) sized
      ∙ ap (λ (b : Bool). b && is_count f.cover f.given (Some n)) own
      ∙ ap (λ (c : Option Cover). is_count c f.given (Some n)) h.cover_is
      ∙ counted

  given_so : (e : Ends) (w : Waits) (ws : List Waits) (f : Flow) → is_data f.layout ≡ false
      → f.waiting ≡ w.sdu ∷ sdus_of ws → IsSdu w.sdu → IsQueueOf kind e f
      → flow_taken histories (Some e.tx.next) (length w.sdu) None f ≡ giving e w ws f
  given_so e w ws f plain waits size h =
      let n = e.tx.next in
      let len = length w.sdu in
      ap (λ (b : Bool). if b then gives_data histories (Some n) None f
      else if is_first (Some n) len f.waiting f then gives_first histories f.waiting f else f) plain
      ∙ ap (λ (b : Bool). if b then gives_first histories f.waiting f else f) (is_first_so e w ws f waits size h)
      ∙ ap (λ (xs : List (List ℕ)). gives_first histories xs f) waits
      ∙ ap (λ (c : Option Cover). record f {
        waiting = sdus_of ws;
        given = f.given + 1;
        stream = with_covered histories c f.given w.sdu f.stream;
      }) h.cover_is
      ∙ ap (λ (count : ℕ). record f {
        waiting = sdus_of ws;
        given = f.given + 1;
        stream = with_given histories (pdcp_pdu kind e.tx.protection count w.sdu) f.stream;
      }) h.given_is

  takes_none : (e : Ends) (f : Flow) → e.tx.waiting ≡ [] → IsQueueOf kind e f → TakesSo e f
  unfolding taken taking_told after_taking
  takes_none e f none h =
      let q = queueing_of e f h in
      let next = taking_is e [] none q in
      let told : taking_told e ≡ [] = ap (next_told e.lcid e.kind) next in
      let pdu : taken e ≡ None = ap (option_map (λ (n : Next). n.octets)) next in
      let after = after_is e [] none q in
      let over : queue_over (taking_told e) f ≡ f = ap (λ (es : List Event). queue_over es f) told in
      record {
        right = subst (λ (es : List Event). AreRightHere es f) (sym told) tt;
        queue = subst (IsQueueOf kind (after_taking e)) (sym over)
            (subst (λ (s : Sending). IsQueueOf kind (record e { tx = s }) f) (sym after) h);
        layout = ap (λ (g : Flow). g.layout) over;
        floor = ap (λ (g : Flow). g.floor) over;
        stream = ap (λ (g : Flow). g.stream) over
            ∙ ap (λ (o : Option (List ℕ)). given_if o f.stream) (sym pdu);
        some = λ octets is. by octets (sym pdu ∙ is);
      }
    where
      by : (octets : List ℕ) → None ≡ Some octets → 0 < length octets
      by octets e = absurd cc

  takes_one : (e : Ends) (f : Flow) (w : Waits) (ws : List Waits) → is_data f.layout ≡ false → e.tx.waiting ≡ w ∷ ws
      → IsQueueOf kind e f → TakesSo e f
  unfolding taken taking_told after_taking
  takes_one e f w ws plain one h =
      let q = queueing_of e f h in
      let next = taking_is e (w ∷ ws) one q in
      let n = e.tx.next in
      let told : taking_told e ≡ events.Take e.lcid (Some n) (length w.sdu) ∷ [] = ap (next_told e.lcid e.kind) next in
      let octets = pdcp_pdu kind e.tx.protection n w.sdu in
      let pdu : taken e ≡ Some octets = ap (option_map (λ (x : Next). x.octets)) next in
      let after = after_is e (w ∷ ws) one q in
      let waits : f.waiting ≡ w.sdu ∷ sdus_of ws = h.waiting_is ∙ ap sdus_of one in
      let sizes = subst (AllByRecursion IsSdu) waits h.sizes in
      let over : queue_over (taking_told e) f ≡ giving e w ws f =
      ap (λ (es : List Event). queue_over es f) told ∙ given_so e w ws f plain waits sizes.0 h in
      let p = (queueing_passes kind off).taken e q in
      record {
        right = subst (λ (es : List Event). AreRightHere es f) (sym told) (
          record {
            sdu = w.sdu;
            rest = sdus_of ws;
            first = waits;
            size = sizes.0;
            len_is = refl;
            count_is = subst (λ (c : Option Cover). IsCountOf c f.given (Some n)) (sym h.cover_is)
                (ap (λ (count : ℕ). Some count) (sym h.given_is));
          },
          tt,
        );
        queue = subst (IsQueueOf kind (after_taking e)) (sym over) (record {
          cover_is = h.cover_is ∙ ap (λ (s : Sending). covers kind s.protection) (sym after);
          waiting_is = ap (λ (xs : List Waits). sdus_of (drop 1 xs)) (sym one)
              ∙ ap (λ (s : Sending). sdus_of s.waiting) (sym after);
          given_is = ap (λ (count : ℕ). count + 1) h.given_is ∙ ap (λ (s : Sending). s.next) (sym after);
          sizes = sizes.1;
          plain = p.plain;
          room = p.room;
          wide = p.wide;
        });
        layout = ap (λ (g : Flow). g.layout) over;
        floor = ap (λ (g : Flow). g.floor) over;
        stream = ap (λ (g : Flow). g.stream) over
            ∙ ap (λ (o : Option (List ℕ)). given_if o f.stream) (sym pdu);
        some = λ other is. by other (sym pdu ∙ is) (pdu_some kind e.tx.protection n w.sdu sizes.0.0);
      }
    where
      by : {octets : List ℕ} (other : List ℕ) → Some octets ≡ Some other → 0 < length octets → 0 < length other
      by other same some = subst (λ (o : Option (List ℕ)). IfSome o (λ xs. 0 < length xs)) same some

  pub queue_takes : (e : Ends) (f : Flow) → is_data f.layout ≡ false → IsQueueOf kind e f → TakesSo e f
  queue_takes e f plain h = by e.tx.waiting refl
    where
      by : (ws : List Waits) → e.tx.waiting ≡ ws → TakesSo e f
      by [] none = takes_none e f none h
      by (w ∷ ws) one = takes_one e f w ws plain one h

  -- ---- a TTI begins: SDUs may be discarded

  pub record TicksSo (e : Ends) (f : Flow) : Type 0 where
    pub right : AreRightHere (tick_told e) f
    pub queue : IsQueueOf kind (after_tick e) (queue_over (tick_told e) f)
    pub layout : (queue_over (tick_told e) f).layout ≡ f.layout
    pub floor : (queue_over (tick_told e) f).floor ≡ f.floor
    pub stream : (queue_over (tick_told e) f).stream ≡ f.stream

  pub queue_ticks : (e : Ends) (f : Flow) → IsQueueOf kind e f → TicksSo e f
  unfolding tick_told after_tick
  queue_ticks e f h =
      let ws = e.tx.waiting in
      let s = ticked e.tx in
      let alike : f ≡ waiting_to ws f = ap (λ (sdus : List (List ℕ)). record f { waiting = sdus }) h.waiting_is in
      let over : queue_over (late_told e.lcid ws s) f ≡ waiting_to (without_late ws s).waiting f =
      ap (queue_over (late_told e.lcid ws s)) alike ∙ lates_over e.lcid ws s f refl in
      let q = (queueing_passes kind off).ticked e (queueing_of e f h) in
      record {
        right = subst (AreRightHere (late_told e.lcid ws s)) (sym alike) (lates_right e.lcid ws s f);
        queue = subst (IsQueueOf kind (record e { tx = without_late ws s })) (sym over) (record {
          cover_is = h.cover_is ∙ ap (covers kind) (sym (late_protection ws s));
          waiting_is = refl;
          given_is = h.given_is ∙ sym (late_next ws s);
          sizes = late_sized ws s refl (subst (AllByRecursion IsSdu) h.waiting_is h.sizes);
          plain = q.plain;
          room = q.room;
          wide = q.wide;
        });
        layout = ap (λ (g : Flow). g.layout) over;
        floor = ap (λ (g : Flow). g.floor) over;
        stream = ap (λ (g : Flow). g.stream) over;
      }

  -- ---- an SDU is submitted, one is heard or confirmed, the discard timer is set

  pub queue_submitted : (e : Ends) (sdu : List ℕ) (f : Flow) → is_data f.layout ≡ false → refusal e.tx sdu ≡ None
      → IsQueueOf kind e f → IsQueueOf kind (record e { tx = submitted e.tx sdu }) (flow_submitted sdu f)
  unfolding submitted
  queue_submitted e sdu f plain accepted h =
      let now : Flow = record f { waiting = f.waiting ++ sdu ∷ [] } in
      let alike : flow_submitted sdu f ≡ now = ap (λ (b : Bool). if b then f else now) plain in
      let q = (queueing_passes kind off).submits e sdu accepted (queueing_of e f h) in
      subst (IsQueueOf kind (record e { tx = submitted e.tx sdu })) (sym alike) (record {
        cover_is = h.cover_is;
        waiting_is = ap (λ (sdus : List (List ℕ)). sdus ++ sdu ∷ []) h.waiting_is
            ∙ sym (map-append (λ (w : Waits). w.sdu) e.tx.waiting (record { sdu = sdu; born = e.tx.clock } ∷ []));
        given_is = h.given_is;
        sizes = all_then IsSdu f.waiting (sdu ∷ []) h.sizes (submitted_sized e.tx sdu accepted, tt);
        plain = q.plain;
        room = q.room;
        wide = q.wide;
      })

  pub queue_heard : (pdu : List ℕ) (cause : Cause) (e : Ends) (f : Flow) → IsQueueOf kind e f
      → IsQueueOf kind (after_hearing pdu cause e) f
  queue_heard pdu cause e f h =
      let same = heard_same kind off pdu cause e h.plain.own in
      still e (after_hearing pdu cause e) f (ap (λ (s : Sending). s.protection) same)
      (ap (λ (s : Sending). s.waiting) same) (ap (λ (s : Sending). s.next) same)
      ((queueing_passes kind off).heard pdu cause e (queueing_of e f h)) h

  pub queue_confirmed : (e : Ends) (place : ℕ) (f : Flow) → IsQueueOf kind e f
      → IsQueueOf kind (record e { tx = confirmed e.tx place }) f
  unfolding confirmed
  queue_confirmed e place f h =
      still e (record e { tx = confirmed e.tx place }) f refl refl refl
      ((queueing_passes kind off).confirms e place (queueing_of e f h)) h

  pub queue_discards : (e : Ends) (ttis : ℕ) (f : Flow) → IsQueueOf kind e f
      → IsQueueOf kind (record e { tx = record e.tx { discard = Some ttis } }) f
  queue_discards e ttis f h =
      still e (record e { tx = record e.tx { discard = Some ttis } }) f refl refl refl
      ((queueing_passes kind off).discards e ttis (queueing_of e f h)) h

  -- another flow alike in what PDCP keeps
  pub queue_alike : (e : Ends) (f g : Flow) → g.cover ≡ f.cover → g.waiting ≡ f.waiting → g.given ≡ f.given
      → IsQueueOf kind e f → IsQueueOf kind e g
  queue_alike e f g cover waiting given h = record {
    cover_is = cover ∙ h.cover_is;
    waiting_is = waiting ∙ h.waiting_is;
    given_is = given ∙ h.given_is;
    sizes = subst (AllByRecursion IsSdu) (sym waiting) h.sizes;
    plain = h.plain;
    room = h.room;
    wide = h.wide;
  }

  -- ---- a life begins, and the next one; SDUs wait on where the layout says so

  pub queue_begun : (layout : Layout) (lcid : ℕ) (keys : Keys) (side : Side)
      → IsQueueOf kind (begun_pdcp lcid kind 0 keys side) (flow_begun histories layout (cover_as kind side lcid keys))
  unfolding begun_pdcp start
  queue_begun layout lcid keys side =
      let q = begun_queueing kind off lcid 0 keys side (omega arith) in
      record {
        cover_is = refl;
        waiting_is = refl;
        given_is = refl;
        sizes = tt;
        plain = q.plain;
        room = q.room;
        wide = q.wide;
      }

  pub queue_restarts : (e : Ends) (keys : Keys) (f : Flow)
      → waiting_behind f.layout f.waiting ≡ map (λ (w : Waits). w.sdu) (waiting_on kind e.tx.waiting)
      → IsQueueOf kind e f → IsQueueOf kind (restarted_pdcp e keys) (flow_renewed histories keys f)
  unfolding restarted_pdcp restarted_sending
  queue_restarts e keys f waits h =
      let q = (queueing_passes kind off).restarts e keys (queueing_of e f h) in
      let same = sym (owes_nothing kind off e (restarted_sending e.tx keys) h.plain) in
      let own = sym h.plain.sender.kind_is in
      let p = e.tx.protection in
      record {
        cover_is = ap (cover_renewed keys) h.cover_is
            ∙ ap (λ (k : PdcpKind). covers kind (protection_of k keys p.bearer p.direction)) own
            ∙ ap (λ (s : Sending). covers kind s.protection) same;
        waiting_is = waits
            ∙ ap (λ (k : PdcpKind). sdus_of (waiting_on k e.tx.waiting)) own
            ∙ ap (λ (s : Sending). sdus_of s.waiting) same;
        given_is = none_given kind e.tx.next off
            ∙ ap (λ (k : PdcpKind). next_from k e.tx.next) own
            ∙ ap (λ (s : Sending). s.next) same;
        sizes = kept_sized f.layout f.waiting h.sizes;
        plain = q.plain;
        room = q.room;
        wide = q.wide;
      }
