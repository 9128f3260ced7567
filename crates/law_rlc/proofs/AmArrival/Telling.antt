-- What is told along the steps of a flow: the fields of the numbers, and what has come of them.
use Rattle.std.proofs.Common.{◌≡◌, ◌<◌, ◌≤◌, inl, inr, ℕ, zero, suc, ◌+◌, ◌-◌, ◌%◌, Bool, true, false, ◌&&◌, ◌||◌, ◌==◌}
use Rattle.std.proofs.Common.{if◌then◌else◌, List, [], ◌∷◌, ◌++◌, map, length, take, slice_get, slice_index}
use Rattle.std.proofs.Common.{slice_index_or, slice_range, Option, Some, None, Result, Ok, Err, nat_le, nat_lt, refl}
use Rattle.std.proofs.Common.{ap, sym, subst, ◌∙◌, arith, length-append}
use Rattle.std.specs.List.{AllByRecursion}
use Rattle.std.proofs.lemmas.Bool.Decides.{nat_tests}
use Rattle.std.proofs.lemmas.Bool.{cases_lt}
use Rattle.std.proofs.lemmas.List.{get_or_append_left, get_or_push, length-map}
use Rattle.l2_types.specs.declared.config.AmTxConfig.{AmTxConfig}
use Rattle.l2_types.specs.declared.AmRxConfig.{AmRxConfig}
use Rattle.rlc_pdu.specs.declared.fault.RlcRefusal.{RlcRefusal}
use Rattle.rlc_pdu.specs.declared.outcome.Taken.{Taken}
use Rattle.rlc_pdu.specs.declared.outcome.Taken.TheVariants as taken
use Rattle.rlc_pdu.specs.declared.pdu.Segment.{Segment}
use Rattle.rlc_pdu.specs.Pdus.{AmdPdu, AcknowledgedPdu, Payload, Status as Control}
use Rattle.rlc_pdu.specs.Reading.{am_at}
use Rattle.rlc_am_rx_window.specs.Piece.{so_of, is_last, octets_in}
use Rattle.rlc_am_tx.specs.declared.turn.Turn.{Turn}
use Rattle.rlc_am_tx.specs.declared.turn.Turn.TheVariants as turns
use Rattle.rlc_am_tx.specs.Machine.{turn, answer, number_again}
use Rattle.law_rlc.specs.AmSender.Run.{Call as SenderCall, Offer, Take, Status, Tick, Expire, Settle, Confirm}
use Rattle.law_rlc.specs.AmSender.Run.{World as SenderWorld, run_am_sender, begun}
use Rattle.law_rlc.specs.AmSender.Octets.{Place, Octets, nothing_sent, written, segment_of, new_count, octets_by}
use Rattle.law_rlc.specs.AmSender.Octets.{octets_after, IsAgain, IsNone, IsWritten, again_octets}
use Rattle.law_rlc.specs.AmSender.Polled.{poll_of}
use Rattle.law_rlc.proofs.AmSender.Stretches.{range-all}
use Rattle.law_rlc.proofs.AmSender.Writes.{writes}
use Rattle.law_rlc.specs.AmReceiver.Run.{Call as ReceiverCall, Arrive, Up, Write, ExpireReorder, ExpireProhibit}
use Rattle.law_rlc.specs.AmReceiver.Run.{TickReorder, TickProhibit, World, Came, place_has_come, kept_with}
use Rattle.law_rlc.specs.AmPair.Flow.{Copy, Report, Flow, Step, Sends, Receives, Reports, DataComes, StatusComes}
use Rattle.law_rlc.specs.AmPair.Flow.{DataGoes, StatusGoes, Passes, sender, receiver, copies_with, sends, receives}
use Rattle.law_rlc.specs.AmPair.Flow.{data_comes, status_comes, status_read, happens, goes, am_rlc_outset}
use Rattle.law_rlc.specs.AmPair.Given.{IsGiven, AreGiven}
use Rattle.law_rlc.proofs.AmPair.Laws.{happens-sound}
use Rattle.law_rlc.proofs.AmPair.Parts.{cells-length, stretch-part}
use Rattle.law_rlc.proofs.AmPair.Reading.{IsAired, read_as, stretch-read}
use Rattle.law_rlc.proofs.AmPair.Runs.{sender-more, receiver-more}
use Rattle.law_rlc.proofs.AmPair.Sound.{IsTrueCopy, IsSound, IsKept}
use Rattle.law_words.specs.Stretches.{Stretch}
use Rattle.law_words.specs.Passing.{Passing, Writes, Comes, Told, nothing_told, with_field, last_with, stretch_of}
use Rattle.law_words.specs.Passing.{with_stretch, written_as, come_as, with_passing, with_passings}
use Rattle.law_rlc.specs.AmArrival.Arrival.{written_in, coming, passed_in, passed}
use Rattle.law_rlc.proofs.AmArrival.Places.{IsWithin, lies, covered}
use Rattle.law_rlc.proofs.AmArrival.Kept.{none_unsent}
use Rattle.law_rlc.proofs.AmArrival.Coming.{reads_copy, part_end, cells_are, is_received, keeps_brings}

-- what is told belongs to what was sent and to what was kept
pub record Tells (sent : List (List Place)) (kept : List Came) (t : Told) : Type 0 where
  pub fields : t.fields ≡ map length sent
  pub within : AllByRecursion (IsWithin t.fields) t.came
  pub same : (n i : ℕ) → n < length sent → i < length (slice_index_or sent n [])
      → place_has_come kept n i ≡ covered t.came n i

abbrev pub TellsOf : Flow → Told → Type 0
TellsOf f t = Tells (sender f).past.sent (receiver f).kept t

tells_alike : (sent more : List (List Place)) (kept now : List Came) (t : Told) → more ≡ sent → now ≡ kept
    → Tells sent kept t → Tells more now t
tells_alike sent more kept now t a b h =
    subst (λ (x : List (List Place)). Tells x now t) (sym a) (subst (λ (x : List Came). Tells sent x t) (sym b) h)

-- ---- sizes

pub lens_at : (sent : List (List Place)) (n : ℕ) → slice_index (map length sent) n ≡ length (slice_index_or sent n [])
lens_at [] n = refl
lens_at (ps ∷ sent) zero = refl
lens_at (ps ∷ sent) (suc n) = lens_at sent n

lens_more : (sent : List (List Place)) (ps : List Place)
    → map length (sent ++ ps ∷ []) ≡ map length sent ++ length ps ∷ []
lens_more [] ps = refl
lens_more (x ∷ sent) ps = ap (λ (l : List ℕ). length x ∷ l) (lens_more sent ps)

index_more : (xs ys : List ℕ) (n : ℕ) → n < length xs → slice_index (xs ++ ys) n ≡ slice_index xs n
index_more [] ys n lt = absurd (omega (arith, lt))
index_more (x ∷ xs) ys zero lt = refl
index_more (x ∷ xs) ys (suc n) lt = index_more xs ys n (omega (arith, lt))

within_more : (fields : List ℕ) (size : ℕ) (came : List Stretch) → AllByRecursion (IsWithin fields) came
    → AllByRecursion (IsWithin (fields ++ size ∷ [])) came
within_more fields size [] h = tt
within_more fields size (s ∷ came) h =
    let k = h.0.known in
    let l = length-append fields (size ∷ []) in
    let e = h.0.end' in
    let i = index_more fields (size ∷ []) s.number h.0.known in
    (record { known = omega (arith, k, l); end' = omega (arith, e, i) }, within_more fields size came h.1)

-- none lies in a number that isn't sent
none_covered : (fields : List ℕ) (came : List Stretch) (n i : ℕ) → AllByRecursion (IsWithin fields) came
    → length fields ≤ n → covered came n i ≡ false
none_covered fields [] n i h le = refl
none_covered fields (s ∷ came) n i h le =
    let ih = none_covered fields came n i h.1 le in
    let k = h.0.known in
    let other : (s.number == n) ≡ false = grind (arith, nat_tests, k, le) in
    grind (arith, nat_tests, ih, other)

-- ---- a new PDU

is_new_sn : (pdu : AmdPdu) (t : Told) → pdu.sn ≡ length t.fields % 1024
    → with_field pdu t ≡ record t { fields = t.fields ++ octets_in pdu.elements ∷ [] }
is_new_sn pdu t e =
    let b : (pdu.sn == length t.fields % 1024) ≡ true = grind (arith, nat_tests, e) in
    ap (λ (x : Bool). if x then record t { fields = t.fields ++ octets_in pdu.elements ∷ [] } else t) b

is_old_sn : (pdu : AmdPdu) (t : Told) (number : ℕ) → pdu.sn ≡ number % 1024 → number < length t.fields
    → length t.fields ≤ number + 512 → with_field pdu t ≡ t
is_old_sn pdu t number e lt young =
    let no : (pdu.sn ≡ length t.fields % 1024) → ⊥ = λ same. omega (arith, e, lt, young, same) in
    let b : (pdu.sn == length t.fields % 1024) ≡ false = grind (arith, nat_tests, no) in
    ap (λ (x : Bool). if x then record t { fields = t.fields ++ octets_in pdu.elements ∷ [] } else t) b

count_is : (sent : List (List Place)) (kept : List Came) (t : Told) → Tells sent kept t → length t.fields ≡ length sent
count_is sent kept t h = ap (λ (l : List ℕ). length l) h.fields ∙ length-map sent length

tells_new : (sent : List (List Place)) (kept : List Came) (t : Told) (ps : List Place)
    → AllByRecursion (IsKept sent) kept → Tells sent kept t
    → Tells (sent ++ ps ∷ []) kept (record t { fields = t.fields ++ length ps ∷ [] })
tells_new sent kept t ps k h =
    let l = length-append sent (ps ∷ []) in
    let c = count_is sent kept t h in
    record {
      fields = ap (λ (l : List ℕ). l ++ length ps ∷ []) h.fields ∙ sym (lens_more sent ps);
      within = within_more t.fields (length ps) t.came h.within;
      same = λ n i known lt. elim (cases_lt n (length sent)) [
        | inl old ↦ h.same n i old
            (subst (λ (qs : List Place). i < length qs) (get_or_append_left sent (ps ∷ []) [] n old) lt)
        | inr new ↦ none_unsent sent kept n i k new
            ∙ sym (none_covered t.fields t.came n i h.within (omega (arith, c, new)))
      ];
    }

segment_all : (n : ℕ) → segment_of 0 n n ≡ None
segment_all n = by (n - 0 == n) (record { last = n == n; so = 0 }) (grind (arith, nat_tests))
  where
    by : (b : Bool) (s : Segment) → b ≡ true → (if b then None else Some s) ≡ None
    by true s e = refl
    by false s e = cc

-- it is read as all of its number's octets
pub record IsReadNew (number : ℕ) (ps : List Place) (octets : List ℕ) : Type 0 where
  pub pdu : AmdPdu
  pub read : am_at octets ≡ Ok (Payload pdu)
  pub sn : pdu.sn ≡ number % 1024
  pub all : octets_in pdu.elements ≡ length ps

reads_new : (number : ℕ) (poll : Bool) (ps : List Place) → IsAired ps
    → IsReadNew number ps (written number poll None ps)
reads_new number poll ps a =
    let some = a.some in
    let pdu = read_as number poll (segment_of 0 (length ps) (length ps)) (slice_range ps 0 (length ps)) in
    let part = stretch-part number poll ps 0 (length ps) a some (omega arith) in
    let same : written number poll (segment_of 0 (length ps) (length ps)) (slice_range ps 0 (length ps))
    ≡ written number poll None ps =
    ap (λ (s : Option Segment). written number poll s (slice_range ps 0 (length ps))) (segment_all (length ps))
    ∙ ap (λ (qs : List Place). written number poll None qs) (range-all ps (length ps) refl) in
    let whole : pdu.segment ≡ None = segment_all (length ps) in
    let last = part.last (ap (λ (s : Option Segment). is_last s) whole) in
    let so : so_of pdu.segment ≡ 0 = ap so_of whole in
    let c = cells_are pdu in
    let l = cells-length ps in
    record {
      pdu = pdu;
      read = ap am_at (sym same) ∙ stretch-read number poll ps 0 (length ps) a some (omega arith);
      sn = refl;
      all = omega (arith, last, so, c, l);
    }

-- ---- the sender

-- nothing that is sent is told of anew
told_none : (a : Taken) (t : Told) → IsNone a → with_passings (written_in a) t ≡ t
told_none (taken.Piece number fresh polled octets) t n = absurd n
told_none taken.Idle t n = refl
told_none taken.Small t n = refl
told_none taken.Shut t n = refl
told_none taken.Held t n = refl
told_none taken.Stopped t n = refl

told_written : (octets : List ℕ) (pdu : AmdPdu) (t : Told) → am_at octets ≡ Ok (Payload pdu)
    → with_passing (Writes octets) t ≡ with_field pdu t
told_written octets pdu t e = ap (λ (x : Result AcknowledgedPdu RlcRefusal). written_as x t) e

told_come : (octets : List ℕ) (pdu : AmdPdu) (t : Told) → am_at octets ≡ Ok (Payload pdu)
    → with_passing (Comes octets) t ≡ with_stretch pdu t
told_come octets pdu t e = ap (λ (x : Result AcknowledgedPdu RlcRefusal). come_as x t) e

told_again : (f : Flow) (c : Copy) (t : Told) → IsSound f → IsTrueCopy (sender f).past.sent c
    → length t.fields ≡ length (sender f).past.sent → with_passing (Writes c.octets) t ≡ t
told_again f c t h q count =
    let r = reads_copy f c h q in
    let k = q.known in
    let y = q.young in
    told_written c.octets r.pdu t r.read
    ∙ is_old_sn r.pdu t c.number r.sn (omega (arith, count, k)) (omega (arith, count, y))

sent_so : (f : Flow) (c : SenderCall)
    → (run_am_sender octets_after (f.sent ++ c ∷ []) (begun f.sending nothing_sent)).past.sent
    ≡ (octets_after (sender f).state c (sender f).past).sent
sent_so f c = ap (λ (x : SenderWorld Octets). x.past.sent) (sender-more f c)

-- one that is sent again
again_tells : (f : Flow) (size : ℕ) (held : Option ℕ) (more : Bool) (from to : ℕ) (a : Taken) (t : Told)
    → answer (sender f).state size held more ≡ a
    → IsAgain (sender f).state size from to (sender f).past a
    → (octets_after (sender f).state (Take size held more) (sender f).past).sent ≡ (sender f).past.sent
    → IsSound (sends f (Take size held more)) → TellsOf f t
    → TellsOf f (with_passings (written_in a) t)
again_tells f size held more from to a t g w same ok k =
    let number = number_again (sender f).state in
    let octets = again_octets (sender f).past number from to (poll_of a) in
    let c : Copy = record { number = number; octets = octets } in
    let d = sends f (Take size held more) in
    let copies : d.copies ≡ c ∷ f.copies = ap (λ (x : Taken). copies_with x f.copies) (g ∙ w.is) in
    let all : AllByRecursion (IsTrueCopy (sender d).past.sent) (c ∷ f.copies) =
    subst (λ (cs : List Copy). AllByRecursion (IsTrueCopy (sender d).past.sent) cs) copies ok.copies in
    let sent : (sender d).past.sent ≡ (sender f).past.sent =
    ap (λ (x : SenderWorld Octets). x.past.sent) (sender-more f (Take size held more)) ∙ same in
    let count : length t.fields ≡ length (sender d).past.sent =
    count_is (sender f).past.sent (receiver f).kept t k ∙ ap (λ (x : List (List Place)). length x) (sym sent) in
    subst (λ (x : Told). TellsOf f x)
    (sym (ap (λ (x : Taken). with_passings (written_in x) t) w.is ∙ told_again d c t ok all.0 count)) k

sends_tell : (f : Flow) (size : ℕ) (held : Option ℕ) (more : Bool) (u : Turn) (a : Taken) (t : Told)
    → turn (sender f).state size held more ≡ u
    → answer (sender f).state size held more ≡ a
    → IsWritten u (sender f).state size (sender f).past a → IsSound f → IsSound (sends f (Take size held more))
    → TellsOf f t
    → Tells (octets_by u (sender f).state size (sender f).past).sent (receiver f).kept (with_passings (written_in a) t)
sends_tell f size held more turns.New a t e g w h ok k =
    let o = (sender f).past in
    let ps = take (new_count (sender f).state size) o.unsent in
    let now : (sender (sends f (Take size held more))).past.sent ≡ o.sent ++ ps ∷ [] =
    ap (λ (x : SenderWorld Octets). x.past.sent) (sender-more f (Take size held more))
    ∙ ap (λ (x : Turn). (octets_by x (sender f).state size o).sent) e in
    let l = length-append o.sent (ps ∷ []) in
    let aired : IsAired ps =
    subst IsAired (ap (λ (sent : List (List Place)). slice_index_or sent (length o.sent) []) now
    ∙ get_or_push o.sent ps [] (length o.sent) refl)
    (ok.aired (length o.sent) (let c = ap (λ (sent : List (List Place)). length sent) now in omega (arith, c, l))) in
    let r = reads_new (length o.sent) (poll_of a) ps aired in
    let c = count_is o.sent (receiver f).kept t k in
    let told : with_passings (written_in a) t ≡ record t { fields = t.fields ++ length ps ∷ [] } =
    ap (λ (x : Taken). with_passings (written_in x) t) w.is
    ∙ told_written (written (length o.sent) (poll_of a) None ps) r.pdu t r.read
    ∙ is_new_sn r.pdu t (r.sn ∙ ap (λ (n : ℕ). n % 1024) (sym c))
    ∙ ap (λ (n : ℕ). record t { fields = t.fields ++ n ∷ [] }) r.all in
    subst (λ (x : Told). Tells (o.sent ++ ps ∷ []) (receiver f).kept x) (sym told)
    (tells_new o.sent (receiver f).kept t ps h.kept k)
sends_tell f size held more turns.Whole a t e g w h ok k =
    again_tells f size held more _ _ a t g w
    (ap (λ (x : Turn). (octets_by x (sender f).state size (sender f).past).sent) e) ok k
sends_tell f size held more turns.Part a t e g w h ok k =
    again_tells f size held more _ _ a t g w
    (ap (λ (x : Turn). (octets_by x (sender f).state size (sender f).past).sent) e) ok k
sends_tell f size held more turns.Idle a t e g w h ok k = subst (λ (x : Told). TellsOf f x) (sym (told_none a t w)) k
sends_tell f size held more turns.Stopped a t e g w h ok k = subst (λ (x : Told). TellsOf f x) (sym (told_none a t w)) k
sends_tell f size held more turns.Small a t e g w h ok k = subst (λ (x : Told). TellsOf f x) (sym (told_none a t w)) k
sends_tell f size held more turns.Shut a t e g w h ok k = subst (λ (x : Told). TellsOf f x) (sym (told_none a t w)) k
sends_tell f size held more turns.Held a t e g w h ok k = subst (λ (x : Told). TellsOf f x) (sym (told_none a t w)) k

sender_tells : (f : Flow) (c : SenderCall) (t : Told) → IsGiven f (Sends c) → IsSound f → TellsOf f t
    → TellsOf (happens f (Sends c)) (with_passings (passed_in f (Sends c)) t)
sender_tells f (Offer sdu) t g h k = tells_alike _ _ _ _ t (sent_so f (Offer sdu)) refl k
sender_tells f (Take size held more) t g h k =
    let s = (sender f).state in
    let sent : (sender (sends f (Take size held more))).past.sent
    ≡ (octets_by (turn s size held more) s size (sender f).past).sent = sent_so f (Take size held more) in
    tells_alike _ _ _ _ (with_passings (written_in (answer s size held more)) t) sent refl
    (sends_tell f size held more (turn s size held more) (answer s size held more) t refl refl
    (writes f.sending f.sent size held more h.offered) h (happens-sound f (Sends (Take size held more)) g h) k)
sender_tells f (Status status) t g h k = absurd g
sender_tells f Tick t g h k = tells_alike _ _ _ _ t (sent_so f Tick) refl k
sender_tells f (Expire more) t g h k = tells_alike _ _ _ _ t (sent_so f (Expire more)) refl k
sender_tells f (Settle more) t g h k = tells_alike _ _ _ _ t (sent_so f (Settle more)) refl k
sender_tells f Confirm t g h k = tells_alike _ _ _ _ t (sent_so f Confirm) refl k

-- ---- the receiver

kept_so : (f : Flow) (c : ReceiverCall) → (receiver (receives f c)).kept ≡ kept_with (receiver f) c
kept_so f c = ap (λ (w : World). w.kept) (receiver-more f c)

receiver_tells : (f : Flow) (c : ReceiverCall) (t : Told) → IsGiven f (Receives c) → TellsOf f t
    → TellsOf (happens f (Receives c)) t
receiver_tells f (Arrive pdu) t g k = absurd g
receiver_tells f Up t g k = tells_alike _ _ _ _ t refl (kept_so f Up) k
receiver_tells f Write t g k = absurd g
receiver_tells f ExpireReorder t g k = tells_alike _ _ _ _ t refl (kept_so f ExpireReorder) k
receiver_tells f ExpireProhibit t g k = tells_alike _ _ _ _ t refl (kept_so f ExpireProhibit) k
receiver_tells f TickReorder t g k = tells_alike _ _ _ _ t refl (kept_so f TickReorder) k
receiver_tells f TickProhibit t g k = tells_alike _ _ _ _ t refl (kept_so f TickProhibit) k

-- the last of the numbers that were sent with its SN
last_is : (number count sn : ℕ) → sn ≡ number % 1024 → number < count → count ≤ number + 512
    → last_with sn count ≡ number
last_is number count sn e lt young = omega (arith, e, lt, young)

copy_tells : (f : Flow) (c : Copy) (t : Told) → IsSound f → IsTrueCopy (sender f).past.sent c → TellsOf f t
    → TellsOf (data_comes f (Some c)) (with_passing (Comes c.octets) t)
copy_tells f c t h q k =
    let sent = (sender f).past.sent in
    let r = reads_copy f c h q in
    let p = r.pdu in
    let count = count_is sent (receiver f).kept t k in
    let known = q.known in
    let young = q.young in
    let number : last_with p.sn (length t.fields) ≡ c.number =
    last_is c.number (length t.fields) p.sn r.sn (omega (arith, count, known)) (omega (arith, count, young)) in
    let is : data_comes f (Some c) ≡ receives f (Arrive p) = is_received f c.octets p r.read c.number in
    let size : slice_index t.fields c.number ≡ length (slice_index_or sent c.number []) =
    ap (λ (l : List ℕ). slice_index l c.number) k.fields ∙ lens_at sent c.number in
    let within = part_end (slice_index_or sent c.number []) p r.part in
    subst (λ (x : Flow). TellsOf x (with_passing (Comes c.octets) t)) (sym is)
    (subst (λ (x : Told). TellsOf (receives f (Arrive p)) x) (sym (told_come c.octets p t r.read))
    (record {
      fields = k.fields;
      within = (
        subst
            (λ (n : ℕ). IsWithin t.fields (record {
              number = n;
              from = so_of p.segment;
              size = octets_in p.elements;
            })) (sym number)
            (record { known = omega (arith, count, known); end' = omega (arith, within, size) }),
        k.within,
      );
      same = λ n i lt below.
          ap (λ (l : List Came). place_has_come l n i) (kept_so f (Arrive p))
          ∙ keeps_brings f c p h q r.read r.sn r.part n i below
          ∙ ap
          (λ (m : ℕ). ((m == n) && (nat_le (so_of p.segment) i && nat_lt i (so_of p.segment + octets_in p.elements)))
          || place_has_come (receiver f).kept n i) (sym number)
          ∙ ap (λ (b : Bool). lies (stretch_of p (length t.fields)) n i || b) (k.same n i lt below);
    }))

-- ---- any step

copy_at : (sent : List (List Place)) (cs : List Copy) (k : ℕ) (c : Copy) → AllByRecursion (IsTrueCopy sent) cs
    → slice_get cs k ≡ Some c → IsTrueCopy sent c
copy_at sent [] k c h e = let no : None ≡ Some c = e in cc
copy_at sent (d ∷ cs) zero c h e = let same : Some d ≡ Some c = e in let is : d ≡ c = cc in
    subst (IsTrueCopy sent) is h.0
copy_at sent (d ∷ cs) (suc k) c h e = copy_at sent cs k c h.1 e

data_tells : (f : Flow) (o : Option Copy) (t : Told) → ((c : Copy) → o ≡ Some c → IsTrueCopy (sender f).past.sent c)
    → IsSound f → TellsOf f t
    → TellsOf (data_comes f o) (with_passings (coming o) t)
data_tells f None t at h k = k
data_tells f (Some c) t at h k = copy_tells f c t h (at c refl) k

status_tells : (f : Flow) (o : Option Report) (t : Told) → TellsOf f t → TellsOf (status_comes f o) t
status_tells f None t k = k
status_tells f (Some r) t k = by (am_at r.octets)
  where
    by : (x : Result AcknowledgedPdu RlcRefusal) → TellsOf (status_read f x) t
    by (Ok (Payload pdu)) = k
    by (Ok (Control pdu)) = tells_alike _ _ _ _ t (sent_so f (Status pdu)) refl k
    by (Err refused) = k

step_tells : (f : Flow) (s : Step) (t : Told) → IsGiven f s → IsSound f → TellsOf f t
    → TellsOf (happens f s) (with_passings (passed_in f s) t)
step_tells f (Sends c) t g h k = sender_tells f c t g h k
step_tells f (Receives c) t g h k = receiver_tells f c t g k
step_tells f (Reports size octets) t g h k = tells_alike _ _ _ _ t refl (kept_so f Write) k
step_tells f (DataComes j) t g h k =
    data_tells f (slice_get f.copies j) t (λ c e. copy_at (sender f).past.sent f.copies j c h.copies e) h k
step_tells f (StatusComes j) t g h k = status_tells f (slice_get f.reports j) t k
step_tells f (DataGoes j) t g h k = tells_alike _ _ _ _ t refl refl k
step_tells f (StatusGoes j) t g h k = tells_alike _ _ _ _ t refl refl k
step_tells f Passes t g h k = tells_alike _ _ _ _ t refl refl k

pub told_then : (xs ys : List Passing) (t : Told) → with_passings (xs ++ ys) t ≡ with_passings ys (with_passings xs t)
told_then [] ys t = refl
told_then (x ∷ xs) ys t = told_then xs ys (with_passing x t)

pub steps_tell : (ss : List Step) (f : Flow) (t : Told) → AreGiven f ss → IsSound f → TellsOf f t
    → TellsOf (goes ss f) (with_passings (passed ss f) t)
steps_tell [] f t g h k = k
steps_tell (s ∷ ss) f t g h k =
    subst (λ (x : Told). TellsOf (goes ss (happens f s)) x)
    (sym (told_then (passed_in f s) (passed ss (happens f s)) t))
    (steps_tell ss (happens f s) (with_passings (passed_in f s) t) g.1 (happens-sound f s g.0 h)
    (step_tells f s t g.0 h k))

pub first_tells : (sending : AmTxConfig) (receiving : AmRxConfig)
    → TellsOf (am_rlc_outset sending receiving) nothing_told
first_tells sending receiving = record { fields = refl; within = tt; same = λ n i lt below. absurd (omega (arith, lt)) }
