-- The PDUs that an acknowledged bearer writes have the numbers that are gathered of them.
use Rattle.std.proofs.Common.{◌≡◌, ◌<◌, ◌≤◌, ℕ, ◌+◌, ◌-◌, Bool, true, false, List, [], ◌∷◌, ◌++◌}
use Rattle.std.proofs.Common.{map, length, Option, Some, Ok, refl, ap, sym, subst, ◌∙◌, arith}
use Rattle.std.specs.List.{AllByRecursion}
use Rattle.std.proofs.lemmas.List.{map-append}
use Rattle.l2_types.specs.declared.event.How.{How}
use Rattle.l2_types.specs.declared.event.How.TheVariants as hows
use Rattle.rlc_pdu.specs.declared.outcome.Taken.{Taken}
use Rattle.rlc_pdu.specs.declared.outcome.Taken.TheVariants as taken
use Rattle.rlc_pdu.specs.Pdus.{AmdPdu, Payload}
use Rattle.rlc_pdu.specs.Reading.{am_at}
use Rattle.rlc_am_rx_window.specs.Piece.{octets_in, so_of}
use Rattle.rlc_am_rx.specs.State.{State as Receiver}
use Rattle.rlc_am_tx_window.specs.Sent.{next_stretch}
use Rattle.rlc_am_tx_window.specs.Window.{next}
use Rattle.rlc_am_tx.specs.declared.turn.Turn.{Turn}
use Rattle.rlc_am_tx.specs.declared.turn.Turn.TheVariants as turns
use Rattle.rlc_am_tx.specs.Machine.{State as Sender, turn, answer, again, number_again}
use Rattle.bearer.specs.Acknowledged.State.{State}
use Rattle.bearer.specs.Acknowledged.Taking.{data_size, status_pdus}
use Rattle.bearer.specs.Taking.{pdus}
use Rattle.bearer.specs.declared.flow.Flow.TheVariants.{Am}
use Rattle.bearer_pdcp.specs.Telling.{pdus_of}
use Rattle.law_words.specs.Passing.{last_with}
use Rattle.promises.specs.SentNumbers.{IsNumber}
use Rattle.journal_account.specs.FlowEvents.{FlowEvent, next_of}
use Rattle.journal_flows.specs.declared.parcels.Parcel.TheVariants.{Octets, Report}
use Rattle.journal_flows.specs.NumberedPdus.{front_in, parcel_by}
use Rattle.law_bearer.specs.AnyBearer.Acknowledged.{offers_in, offered_to, has_more_behind, data_given}
use Rattle.law_bearer.specs.AnyBearer.Sending.{sends_on}
use Rattle.law_bearer.proofs.AnyBearer.SenderCalls.{all_then, writes_what_rlc_gives}
use Rattle.law_rlc.specs.AmPair.Flow.{Copy, Report as SentReport, Flow, copies_with, sender, receiver, goes}
use Rattle.law_rlc.specs.AmPair.Flow.{am_rlc_outset}
use Rattle.law_rlc.specs.AmSender.Run.{Offer, after}
use Rattle.law_rlc.specs.AmSender.Octets.{Octets as Sent, IsNew, IsAgain, IsNone, IsWritten, sent_with}
use Rattle.law_rlc.proofs.AmPair.Laws.{sound}
use Rattle.law_rlc.proofs.AmPair.Sound.{IsSound}
use Rattle.law_rlc.proofs.AmSender.Writes.{writes}
use Rattle.law_deliver.specs.AmFlow.Carrying.{pdu_octets, Numbered, Reported, data_written}
use Rattle.law_deliver.specs.AmFlow.Carrying.{status_written, written_in}
use Rattle.law_deliver.specs.AmFlow.Pair.{written_now, reports_now}
use Rattle.law_deliver.proofs.AmFlow.Carrying.{data_octets}
use Rattle.law_deliver.proofs.AmFlow.Sending.{offers_all}
use Rattle.law_deliver.proofs.AmFlow.Visiting.{octets_given}
use Rattle.law_deliver.proofs.AmFlow.Standing.{given_more, goes_more}
use Rattle.law_account.specs.LateStatus.{entries_of}
use Rattle.law_account.proofs.History.{next_is}
use Rattle.law_sound.specs.GatherLaws.{IsData}
use Rattle.law_sound.specs.HearingLaws.{IsWrittenTrue, HasOneData}
use Rattle.law_sound.specs.NumberLaws.{IsNumbered, NumbersAreGiven, data_parcel}
use Rattle.law_sound.specs.NumberLaws.{IsReadAs, HasRoom, IsGathered, NewPdusAreGathered}
use Rattle.law_sound.proofs.LogPdus.{keeps, young, new_aired, new_read, again_read}
use Rattle.law_sound.proofs.Numbering.{own_last}
use Rattle.law_sound.proofs.Writing.{bearers_report_truly, bearers_write_one}

-- ---- what `take` answers

abbrev IsNumberedAs : ℕ → Taken → Type 0
IsNumberedAs next (taken.Piece n first polled octets) = IsNumbered next first n octets
IsNumberedAs next taken.Idle = Unit {0}
IsNumberedAs next taken.Small = Unit {0}
IsNumberedAs next taken.Shut = Unit {0}
IsNumberedAs next taken.Held = Unit {0}
IsNumberedAs next taken.Stopped = Unit {0}

module _ (f : Flow) (h : IsSound f) (size : ℕ) (few : size ≤ 32767) (held : Option ℕ) (more : Bool) where
  abbrev s : Sender
  s = (sender f).state

  abbrev o : Sent
  o = (sender f).past

  count : length o.sent ≡ next s.window
  count = (keeps f.sending f.sent h.offered h.aired size few held more).faces.number

  new_numbered : (t : Taken) → turn s size held more ≡ turns.New → IsNew s size o t → IsNumberedAs (next s.window) t
  new_numbered t e w =
      let r = new_read f.sending f.sent h.offered h.aired size few held more (length o.sent) _ e in
      let a = new_aired f.sending f.sent h.offered h.aired size few held more e in
      let so = r.so in
      let long = r.size in
      subst (IsNumberedAs (next s.window)) (sym w.is)
      (record {
        pdu = r.pdu;
        read = r.read;
        sn_is = r.sn;
        some = omega (arith, long, a.some);
        most = omega (arith, so, long, a.few);
        number = (count, r.so);
      })

  again_numbered : (from to : ℕ) (t : Taken) → IsAgain s size from to o t → IsNumberedAs (next s.window) t
  again_numbered from to t w =
      let r = again_read f.sending f.sent h.offered h.aired size few held more from to t w in
      let n = count in
      let y = young f.sending f.sent h.offered h.aired size few held more in
      let lt : number_again s < next s.window = let k = w.sent in omega (arith, n, k) in
      let near : next s.window ≤ number_again s + 512 = omega (arith, n, y) in
      let so = r.so in
      let long = r.size in
      let some = w.some in
      let within = w.within in
      let most = (h.aired (number_again s) w.sent).few in
      subst (IsNumberedAs (next s.window)) (sym w.is) (record {
        pdu = r.pdu;
        read = r.read;
        sn_is = r.sn;
        some = omega (arith, long, some);
        most = omega (arith, so, long, some, within, most);
        number = (
          lt,
          near,
          sym (ap (λ (m : ℕ). last_with m (next s.window)) r.sn
              ∙ own_last (number_again s) (next s.window) lt (omega (arith, near))),
        );
      })

  none_numbered : (t : Taken) → IsNone t → IsNumberedAs (next s.window) t
  none_numbered (taken.Piece number fresh polled octets) n = absurd n
  none_numbered taken.Idle n = tt
  none_numbered taken.Small n = tt
  none_numbered taken.Shut n = tt
  none_numbered taken.Held n = tt
  none_numbered taken.Stopped n = tt

  turn_numbered : (u : Turn) (t : Taken) → turn s size held more ≡ u → IsWritten u s size o t
      → IsNumberedAs (next s.window) t
  turn_numbered turns.New t e w = new_numbered t e w
  turn_numbered turns.Whole t e w = again_numbered 0 (length (sent_with o (number_again s))) t w
  turn_numbered turns.Part t e w =
      again_numbered (next_stretch (again s) size).from (next_stretch (again s) size).to t w
  turn_numbered turns.Idle t e w = none_numbered t w
  turn_numbered turns.Stopped t e w = none_numbered t w
  turn_numbered turns.Small t e w = none_numbered t w
  turn_numbered turns.Shut t e w = none_numbered t w
  turn_numbered turns.Held t e w = none_numbered t w

  answer_numbered : IsNumberedAs (next s.window) (answer s size held more)
  answer_numbered =
      turn_numbered (turn s size held more) (answer s size held more) refl
      (writes f.sending f.sent size held more h.offered)

pub numbers_are_given : NumbersAreGiven
numbers_are_given sending receiving steps given size held more first polled n octets few is =
    let f = goes steps (am_rlc_outset sending receiving) in
    subst (IsNumberedAs (next (sender f).state.window)) is
    (answer_numbered f (sound sending receiving steps given) size few held more)

-- ---- a data PDU is gathered with its number

module _ (next' front l n : ℕ) (octets : List ℕ) where
  abbrev c : Copy
  c = record { number = n; octets = octets }

  -- the number that is gathered is its own
  with_number : (how : How) (first : Bool) (r : IsNumbered next' first n octets) → IsData how
      → IsNumber how next' r.pdu.sn
      → parcel_by next' front l how (Ok (Payload r.pdu)) ≡ data_parcel l n (Ok (Payload r.pdu))
  with_number hows.New true r d named =
      let from = r.number.1 in
      ap (λ (m : ℕ). Some (Octets l m 0 (octets_in r.pdu.elements))) (sym r.number.0)
      ∙ (ap (λ (m : ℕ). Some (Octets l n m (octets_in r.pdu.elements))) (sym from)
      ∙ ap (λ (m : ℕ). Some (Octets l n (so_of r.pdu.segment) m)) (omega (arith, from)))
  with_number hows.New false r d named =
      let sn = r.sn_is in
      let lt = r.number.0 in
      let near = r.number.1 in
      absurd (omega (arith, sn, lt, near, named))
  with_number hows.Re true r d named =
      let sn = r.sn_is in
      let is = r.number.0 in
      let w = named.sn_is in
      let lt = named.below in
      let near = named.near in
      absurd (omega (arith, sn, is, w, lt, near))
  with_number hows.Re false r d named =
      ap (λ (m : ℕ). Some (Octets l m (so_of r.pdu.segment) (so_of r.pdu.segment + octets_in r.pdu.elements)))
      (sym r.number.2)
  with_number hows.Status first r d named = absurd d
  with_number hows.Tm first r d named = absurd d

  data_gathered : (first : Bool) → IsNumbered next' first n octets → IsGathered next' front l (Numbered c)
  data_gathered first r how named = record {
    parcel = Octets l n (so_of r.pdu.segment) (so_of r.pdu.segment + octets_in r.pdu.elements);
    own = ap (data_parcel l n) r.read;
    gathered = ap (parcel_by next' front l how) r.read ∙ with_number how first r named.0 (named.1 r.pdu r.read);
  }

  data_room : (first : Bool) → IsNumbered next' first n octets → HasRoom (Numbered c)
  data_room first r pdu e =
      let same : Ok (Payload r.pdu) ≡ Ok (Payload pdu) = sym r.read ∙ e in
      let is : r.pdu ≡ pdu = cc in
      subst (λ (x : AmdPdu). (0 < octets_in x.elements) × (so_of x.segment + octets_in x.elements ≤ 32767)) is
      (r.some, r.most)

-- of what a sender gives
given_room : (next' : ℕ) (t : Taken) → IsNumberedAs next' t
    → AllByRecursion HasRoom (map (λ (c : Copy). Numbered c) (copies_with t []))
given_room next' (taken.Piece n first polled octets) r = (data_room next' 0 0 n octets first r, tt)
given_room next' taken.Idle r = tt
given_room next' taken.Small r = tt
given_room next' taken.Shut r = tt
given_room next' taken.Held r = tt
given_room next' taken.Stopped r = tt

given_read : (next' : ℕ) (t : Taken) → IsNumberedAs next' t
    → AllByRecursion IsReadAs (map (λ (c : Copy). Numbered c) (copies_with t []))
given_read next' (taken.Piece n first polled octets) r = ((r.pdu, r.read), tt)
given_read next' taken.Idle r = tt
given_read next' taken.Small r = tt
given_read next' taken.Shut r = tt
given_read next' taken.Held r = tt
given_read next' taken.Stopped r = tt

given_gathered : (next' front l : ℕ) (t : Taken) → IsNumberedAs next' t
    → AllByRecursion (IsGathered next' front l) (map (λ (c : Copy). Numbered c) (copies_with t []))
given_gathered next' front l (taken.Piece n first polled octets) r = (data_gathered next' front l n octets first r, tt)
given_gathered next' front l taken.Idle r = tt
given_gathered next' front l taken.Small r = tt
given_gathered next' front l taken.Shut r = tt
given_gathered next' front l taken.Held r = tt
given_gathered next' front l taken.Stopped r = tt

-- ---- a STATUS with its numbers

reports_gathered : (next' l : ℕ) (xs : List FlowEvent) (rx : Receiver) (share : ℕ) (pdus : List (List ℕ))
    → AllByRecursion (IsWrittenTrue xs rx (share - 3) next' l) pdus
    → AllByRecursion (IsGathered next' (front_in xs) l)
    (map (λ (r : SentReport). Reported r) (map (written_now rx share) pdus))
reports_gathered next' l xs rx share [] h = tt
reports_gathered next' l xs rx share (octets ∷ pdus) h = (
  λ how named. record {
    parcel = Report l (written_now rx share octets).ack (entries_of (written_now rx share octets));
    own = refl;
    gathered = ap (λ (y : How). parcel_by next' (front_in xs) l y (am_at octets)) named
        ∙ (ap (parcel_by next' (front_in xs) l hows.Status) h.0.reads ∙ h.0.gathered.gathered);
  },
  reports_gathered next' l xs rx share pdus h.1,
)

reports_read : (next' l : ℕ) (xs : List FlowEvent) (rx : Receiver) (share : ℕ) (pdus : List (List ℕ))
    → AllByRecursion (IsWrittenTrue xs rx (share - 3) next' l) pdus
    → AllByRecursion IsReadAs (map (λ (r : SentReport). Reported r) (map (written_now rx share) pdus))
reports_read next' l xs rx share [] h = tt
reports_read next' l xs rx share (octets ∷ pdus) h =
    ((h.0.status, h.0.reads), reports_read next' l xs rx share pdus h.1)

reports_room : (rs : List SentReport) → AllByRecursion HasRoom (map (λ (r : SentReport). Reported r) rs)
reports_room [] = tt
reports_room (r ∷ rs) = (tt, reports_room rs)

-- ---- all that a bearer writes

-- is what is carried
status_octets : (rx : Receiver) (share : ℕ) (pdus : List (List ℕ))
    → pdus ≡ map pdu_octets (map (λ (r : SentReport). Reported r) (map (written_now rx share) pdus))
status_octets rx share [] = refl
status_octets rx share (octets ∷ pdus) = ap (λ (xs : List (List ℕ)). octets ∷ xs) (status_octets rx share pdus)

pdus_are : (e : State) (share : ℕ) (held : Option ℕ)
    → pdus (Am e) share held ≡ map pdu_octets (written_in (Am e) share held)
pdus_are e share held =
    writes_what_rlc_gives e share held
    ∙ (ap (λ (xs : List (List ℕ)). xs ++ pdus_of (data_given e share held))
    (status_octets e.rx share (status_pdus e.rx share))
    ∙ (ap (λ (xs : List (List ℕ)). map pdu_octets (status_written e share) ++ xs)
    (octets_given (data_given e share held) ∙ data_octets (copies_with (data_given e share held) []))
    ∙ sym (map-append pdu_octets (status_written e share) (data_written e share held))))

-- what is offered has no number yet
offers_keep : (sdus : List (List ℕ)) (s : Sender)
    → next (sends_on (map (λ sdu. Offer sdu) sdus) s).window ≡ next s.window
offers_keep [] s = refl
offers_keep (sdu ∷ sdus) s = offers_keep sdus (after s (Offer sdu))

pub new_pdus_are_gathered : NewPdusAreGathered
new_pdus_are_gathered a c d b out back g k most other_most l share held es xs e rx tx_is rx_is own others few some =
    let f = goes out (am_rlc_outset a b) in
    let t = offered_to e share held in
    let m = offers_all (offers_in e share held) f e.tx (receiver f).state f.copies f.reports f.busy some
    (record { sender_is = tx_is; receiver_is = refl; copies_are = refl; reports_are = refl; busy_is = refl }) in
    let numbered : IsNumberedAs (next t.window) (data_given e share held) =
    subst (λ (s : Sender). IsNumberedAs (next s.window)
    (answer s (data_size e share) held (has_more_behind e share held))) m.stands.sender_is
    (answer_numbered (goes m.steps f) (subst IsSound (goes_more (am_rlc_outset a b) out m.steps)
    (sound a b (out ++ m.steps) (given_more (am_rlc_outset a b) out m.steps g m.given))) (data_size e share) few held
    (has_more_behind e share held)) in
    let is : next t.window ≡ next_of es =
    offers_keep (offers_in e share held) e.tx ∙ sym (next_is most es e.tx own.follows) in
    let reports = bearers_report_truly c d back k other_most share (next_of es) l xs e (sym rx_is) others in
    record {
      each =
          all_then (IsGathered (next_of es) (front_in xs) l) (status_written e share) (data_written e share held)
          (reports_gathered (next_of es) l xs e.rx share (status_pdus e.rx share)
          reports)
          (given_gathered (next_of es) (front_in xs) l (data_given e share held)
          (subst (λ (n : ℕ). IsNumberedAs n (data_given e share held)) is numbered));
      room =
          all_then HasRoom (status_written e share) (data_written e share held)
          (reports_room (reports_now e.rx share)) (given_room (next t.window) (data_given e share held) numbered);
      read =
          all_then IsReadAs (status_written e share) (data_written e share held)
          (reports_read (next_of es) l xs e.rx share (status_pdus e.rx share) reports)
          (given_read (next t.window) (data_given e share held) numbered);
      one = subst HasOneData (pdus_are e share held) (bearers_write_one c d back k share held e (sym rx_is));
    }
