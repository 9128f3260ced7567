-- A call of the sender keeps what holds of a flow.
use Rattle.std.proofs.Common.{◌≡◌, ◌<◌, ◌≤◌, inl, inr, ℕ, ◌+◌, ◌-◌, Bool, true, false, not, ◌||◌, ◌&&◌, ◌==◌, nat_le}
use Rattle.std.proofs.Common.{nat_lt, if◌then◌else◌, List, [], ◌∷◌, ◌++◌, length, take, slice_range, slice_index_or}
use Rattle.std.proofs.Common.{Option, Some, None, refl, ap, sym, subst, ◌∙◌, arith, length-append}
use Rattle.std.specs.List.{AllByRecursion, sum}
use Rattle.std.proofs.lemmas.Bool.Decides.{nat_tests}
use Rattle.std.proofs.lemmas.Bool.{cases_lt}
use Rattle.std.proofs.lemmas.List.{get_or_append_left, get_or_push}
use Rattle.rlc_pdu.specs.declared.outcome.Taken.{Taken}
use Rattle.rlc_pdu.specs.declared.outcome.Taken.TheVariants as taken
use Rattle.rlc_pdu.specs.declared.pdu.Segment.{Segment}
use Rattle.rlc_pdu.specs.Pdus.{AreLens}
use Rattle.rlc_queue.proofs.Lens.{within as fits-size}
use Rattle.rlc_am_tx_window.specs.Sent.{Sent, all_wait, whole_size}
use Rattle.rlc_am_tx_window.specs.Window.{next}
use Rattle.rlc_am_rx_window.specs.declared.missing.Missing.{Missing}
use Rattle.rlc_am_rx_window.specs.Window.{top}
use Rattle.law_rlc.specs.AmReceiver.Run.{Came, IsComplete}
use Rattle.law_rlc.specs.AmReceiver.Stream.{IsPart}
use Rattle.rlc_am_tx.specs.declared.turn.Turn.{Turn}
use Rattle.rlc_am_tx.specs.declared.turn.Turn.TheVariants as turns
use Rattle.rlc_am_tx.specs.Machine.{State, turn, answer, waits, is_empty, is_shut, is_held, again, new_slot}
use Rattle.rlc_am_tx.specs.Machine.{resend_turn}
use Rattle.law_rlc.specs.AmSender.Run.{Call as SenderCall, Offer, Take, Status, Tick, Expire, Settle, Confirm}
use Rattle.law_rlc.specs.AmSender.Acked.{acked_after}
use Rattle.law_rlc.specs.AmSender.Namings.{in_part}
use Rattle.law_rlc.specs.AmSender.Polled.{poll_of}
use Rattle.law_rlc.specs.AmSender.Watched.{IsFair}
use Rattle.law_rlc.specs.AmSender.Octets.{Place, Octets, written, segment_of, new_count, octets_by, octets_after, IsNew}
use Rattle.law_rlc.specs.AmSender.Octets.{IsAgain, IsNone, IsWritten}
use Rattle.law_rlc.proofs.AmSender.Keys.{key}
use Rattle.law_rlc.proofs.AmSender.Least.{after-fits}
use Rattle.law_rlc.proofs.AmSender.Stretches.{range-all}
use Rattle.law_rlc.proofs.AmSender.Writes.{Faces, new-face, new-able, after-keeps}
use Rattle.law_rlc.proofs.AmSender.Pdus.{IsFace, face-length, face-some}
use Rattle.law_rlc.proofs.AmSender.Writes.{writes}
use Rattle.law_rlc.specs.AmPair.Flow.{Copy, Report, Flow, sender, receiver, copies_with, is_new, sends}
use Rattle.law_rlc.specs.AmPair.Fields.{cells_of}
use Rattle.law_rlc.specs.AmPair.Numbers.{is_acked}
use Rattle.law_rlc.specs.AmPair.Given.{IsHeld, IsTaking, IsSending}
use Rattle.law_rlc.proofs.AmPair.Reading.{IsAired}
use Rattle.law_rlc.proofs.AmPair.Runs.{offered-more}
use Rattle.law_rlc.proofs.AmPair.Sound.{AllAired, IsTrueCopy, one, IsTrueReport, NamesOctet, HasTrueEntries, Agree}
use Rattle.law_rlc.proofs.AmPair.Sound.{IsSound, has-octets, stays-fair, sent-sound, reports-later, IsKept, each}

pub sent-number : (f : Flow) → IsSound f → length (sender f).past.sent ≡ next (sender f).state.window
sent-number f h = h.keeps.faces.number

-- ---- no new PDU

same-busy : (a : Bool) → one a ≤ one (a || false)
same-busy true = omega arith
same-busy false = omega arith

stays-sound : (f : Flow) (c : SenderCall) (copies : List Copy) (busy : Bool) → IsFair (sender f).state c
    → (octets_after (sender f).state c (sender f).past).sent ≡ (sender f).past.sent
    → acked_after (sender f).state c (is_acked f) ≡ is_acked f
    → AllByRecursion (IsTrueCopy (sender f).past.sent) copies → one f.busy ≤ one busy → IsSound f
    → IsSound (record f { sent = f.sent ++ c ∷ []; copies = copies; busy = busy })
stays-sound f c copies busy fair same acked' true' later h = sent-sound f c copies busy (record {
  offered = offered-more f.sent c h.offered (has-octets (sender f).state c fair);
  keeps = after-keeps (sender f).state c (sender f).past (has-octets (sender f).state c fair) h.keeps;
  fits = after-fits (sender f).state c (is_acked f) h.fits;
  aired = subst (λ (sent : List (List Place)). AllAired sent) (sym same) h.aired;
  copies = subst (λ (sent : List (List Place)). AllByRecursion (IsTrueCopy sent) copies) (sym same) true';
  reports =
      subst (λ (sent : List (List Place)). AllByRecursion (IsTrueReport (receiver f).kept (length sent) busy)
      f.reports) (sym same)
      (reports-later (receiver f).kept (length (sender f).past.sent) (length (sender f).past.sent) f.busy busy
      (omega arith) (omega (arith, later)) f.reports h.reports);
  entries = subst (λ (sent : List (List Place)). AllByRecursion (HasTrueEntries sent) f.reports) (sym same) h.entries;
  fair = stays-fair f c h fair;
  known = subst (λ (a : ℕ → Bool). (n : ℕ) → a n ≡ true → IsComplete (receiver f).kept n) (sym acked') h.known;
  top = subst (λ (sent : List (List Place)). top (receiver f).state.window ≤ length sent) (sym same) h.top;
  kept = subst (λ (sent : List (List Place)). AllByRecursion (IsKept sent) (receiver f).kept) (sym same) h.kept;
  some = h.some;
  honest = λ field agree. h.honest field (subst (λ (sent : List (List Place)). Agree sent field) same agree);
})

-- ---- a PDU again

again-sound : (f : Flow) (size : ℕ) (held : Option ℕ) (more : Bool) (from to : ℕ) (a : Taken)
    → (octets_after (sender f).state (Take size held more) (sender f).past).sent ≡ (sender f).past.sent
    → IsAgain (sender f).state size from to (sender f).past a → IsSound f
    → IsSound (record f {
      sent = f.sent ++ Take size held more ∷ [];
      copies = copies_with a f.copies;
      busy = f.busy || is_new a;
    })
again-sound f size held more from to a same r h =
    subst
    (λ (x : Taken). IsSound (record f {
      sent = f.sent ++ Take size held more ∷ [];
      copies = copies_with x f.copies;
      busy = f.busy || is_new x;
    })) (sym r.is)
    (stays-sound f (Take size held more) _ (f.busy || false) tt same refl (
      record {
        known = r.sent;
        young = let n = sent-number f h in let few = h.fits.few in omega (arith, n, few);
        from = from;
        to = to;
        poll = poll_of a;
        some = r.some;
        within = r.within;
        is = refl;
      },
      h.copies,
    ) (same-busy f.busy) h)

-- ---- no PDU

none-is : (a : Taken) → IsNone a → (copies : List Copy) → (copies_with a copies ≡ copies) × (is_new a ≡ false)
none-is (taken.Piece number fresh polled octets) n copies = absurd n
none-is taken.Idle n copies = (refl, refl)
none-is taken.Small n copies = (refl, refl)
none-is taken.Shut n copies = (refl, refl)
none-is taken.Held n copies = (refl, refl)
none-is taken.Stopped n copies = (refl, refl)

none-sound : (f : Flow) (size : ℕ) (held : Option ℕ) (more : Bool) (a : Taken)
    → (octets_after (sender f).state (Take size held more) (sender f).past).sent ≡ (sender f).past.sent
    → IsNone a → IsSound f
    → IsSound (record f {
      sent = f.sent ++ Take size held more ∷ [];
      copies = copies_with a f.copies;
      busy = f.busy || is_new a;
    })
none-sound f size held more a same none h =
    let n = none-is a none f.copies in
    stays-sound f (Take size held more) (copies_with a f.copies) (f.busy || is_new a) tt same refl
    (subst (λ (cs : List Copy). AllByRecursion (IsTrueCopy (sender f).past.sent) cs) (sym n.0) h.copies)
    (subst (λ (b : Bool). one f.busy ≤ one (f.busy || b)) (sym n.1) (same-busy f.busy)) h

-- ---- a new PDU

not-again : (h : Sent) (size : ℕ) → resend_turn h size ≡ turns.New → ⊥
not-again h size e = by (all_wait h && nat_le (whole_size h) size) (nat_le 5 size) e
  where
    by : (a b : Bool) → (if a then turns.Whole else if b then turns.Part else turns.Small) ≡ turns.New → ⊥
    by true b e = cc
    by false true e = cc
    by false false e = cc

by-turn : (a b w shut h : Bool) (r x : Turn) → (r ≡ turns.New → ⊥)
    → (if a then turns.Idle else if b then turns.Stopped else if w then r else if shut then turns.Shut else if h
    then turns.Held else x) ≡ turns.New → h ≡ false
by-turn true b w shut h r x no' e = cc
by-turn false true w shut h r x no' e = cc
by-turn false false true shut h r x no' e = absurd (no' e)
by-turn false false false true h r x no' e = cc
by-turn false false false false true r x no' e = cc
by-turn false false false false false r x no' e = refl

not-held : (s : State) (size : ℕ) (held : Option ℕ) (more : Bool) → turn s size held more ≡ turns.New
    → is_held held (next s.window) ≡ false
unfolding turn
not-held s size held more e =
    by-turn (not (waits s) && is_empty s && not more) s.failed (waits s) (is_shut s) (is_held held (next s.window))
    (resend_turn (again s) size)
    (if nat_lt size 3 then turns.Small else if is_empty s then turns.Idle else turns.New) (not-again (again s) size) e

-- the hold rule
held-young : (held : Option ℕ) (n : ℕ) (c : Copy) → is_held held n ≡ false → IsHeld held c → n < c.number + 512
held-young None n c e h = absurd h
held-young (Some k) n c e h = grind (arith, nat_tests)

new-aired : (s : State) (size : ℕ) (o : Octets) → size ≤ 32767 → (0 < length s.queue.sdus) × (3 ≤ size)
    → Faces s o.unsent o.sent → IsAired (take (new_count s size) o.unsent)
new-aired s size o few able faces =
    let f : IsFace (key (new_slot s size)) (take (new_count s size) o.unsent) =
    new-face s size o.unsent o.sent faces able in
    let l = face-length (key (new_slot s size)) (take (new_count s size) o.unsent) f in
    let w = f.whole in
    let three = able.1 in
    record {
      some = face-some (key (new_slot s size)) (take (new_count s size) o.unsent) f;
      few = let u = fits-size 2 size s.queue.sdus able.0 (omega (arith, three)) in omega (arith, l, u, few);
      joined = f.joined;
      lens = subst (λ (ls : List ℕ). AreLens ls) f.lens f.written;
      whole = ap (λ (ls : List ℕ). sum ls) (sym f.lens) ∙ omega (arith, w, l);
    }

aired-more : (sent : List (List Place)) (ps : List Place) → AllAired sent → IsAired ps → AllAired (sent ++ ps ∷ [])
aired-more sent ps a b n lt = let l = length-append sent (ps ∷ []) in elim (cases_lt n (length sent)) [
  | inl old ↦ subst (λ (qs : List Place). IsAired qs) (sym (get_or_append_left sent (ps ∷ []) [] n old)) (a n old)
  | inr new ↦ subst (λ (qs : List Place). IsAired qs) (sym (get_or_push sent ps [] n (omega (arith, l, lt, new)))) b
]

copy-more : (sent : List (List Place)) (ps : List Place) (c : Copy) → length sent < c.number + 512 → IsTrueCopy sent c
    → IsTrueCopy (sent ++ ps ∷ []) c
copy-more sent ps c young q =
    let l = length-append sent (ps ∷ []) in let k = q.known in
    let same = sym (get_or_append_left sent (ps ∷ []) [] c.number q.known) in
    record {
      known = omega (arith, l, k);
      young = omega (arith, l, young);
      from = q.from;
      to = q.to;
      poll = q.poll;
      some = q.some;
      within = subst (λ (qs : List Place). q.to ≤ length qs) same q.within;
      is =
          subst (λ (qs : List Place). c.octets
          ≡ written c.number q.poll (segment_of q.from q.to (length qs)) (slice_range qs q.from q.to)) same q.is;
    }

kept-more : (sent : List (List Place)) (ps : List Place) (c : Came) → IsKept sent c → IsKept (sent ++ ps ∷ []) c
kept-more sent ps c q =
    let l = length-append sent (ps ∷ []) in let k = q.known in
    record {
      known = omega (arith, l, k);
      part = subst (λ (qs : List Place). IsPart (cells_of qs) c.piece)
          (sym (get_or_append_left sent (ps ∷ []) [] c.number q.known)) q.part;
    }

entry-more : (sent : List (List Place)) (ps : List Place) (m : Missing) → NamesOctet sent m
    → NamesOctet (sent ++ ps ∷ []) m
entry-more sent ps m q =
    let l = length-append sent (ps ∷ []) in let k = q.known in
    let same = sym (get_or_append_left sent (ps ∷ []) [] m.number q.known) in
    record {
      known = omega (arith, l, k);
      octet = q.octet;
      within = subst (λ (qs : List Place). q.octet < length qs) same q.within;
      names = subst (λ (qs : List Place). in_part m.part (length qs) q.octet ≡ true) same q.names;
    }

entries-more : (sent : List (List Place)) (ps : List Place) (r : Report) → HasTrueEntries sent r
    → HasTrueEntries (sent ++ ps ∷ []) r
entries-more sent ps r q =
    record {
      below = q.below;
      octets = each (NamesOctet sent) (NamesOctet (sent ++ ps ∷ [])) (entry-more sent ps) r.entries q.octets;
    }

copies-more : (held : Option ℕ) (sent : List (List Place)) (ps : List Place) → is_held held (length sent) ≡ false
    → (cs : List Copy) → AllByRecursion (IsHeld held) cs → AllByRecursion (IsTrueCopy sent) cs
    → AllByRecursion (IsTrueCopy (sent ++ ps ∷ [])) cs
copies-more held sent ps free [] low h = tt
copies-more held sent ps free (c ∷ cs) low h =
    (copy-more sent ps c (held-young held (length sent) c free low.0) h.0, copies-more held sent ps free cs low.1 h.1)

segment-all : (n : ℕ) → segment_of 0 n n ≡ None
segment-all n = ap (λ (b : Bool). if b then None else Some (record { last = n == n; so = 0 })) (all n)
  where
    all : (n : ℕ) → (n - 0 == n) ≡ true
    all n = grind (arith, nat_tests)

new-copy : (sent : List (List Place)) (ps : List Place) (poll : Bool) → 0 < length ps
    → IsTrueCopy (sent ++ ps ∷ []) (record { number = length sent; octets = written (length sent) poll None ps })
new-copy sent ps poll some =
    let l = length-append sent (ps ∷ []) in
    let here : slice_index_or (sent ++ ps ∷ []) (length sent) [] ≡ ps = get_or_push sent ps [] (length sent) refl in
    record {
      known = omega (arith, l);
      young = omega (arith, l);
      from = 0;
      to = length ps;
      poll = poll;
      some = some;
      within = subst (λ (qs : List Place). length ps ≤ length qs) (sym here) (omega arith);
      is =
          subst (λ (qs : List Place). written (length sent) poll None ps
          ≡ written (length sent) poll (segment_of 0 (length ps) (length qs)) (slice_range qs 0 (length ps)))
          (sym here)
          (ap (λ (segment : Option Segment). written (length sent) poll segment ps) (sym (segment-all (length ps)))
          ∙ ap (λ (qs : List Place). written (length sent) poll (segment_of 0 (length ps) (length ps)) qs)
          (sym (range-all ps (length ps) refl)));
    }

same-octets : (t : Turn) (s : State) (size : ℕ) (held : Option ℕ) (more : Bool) (o : Octets)
    → turn s size held more ≡ t → (octets_after s (Take size held more) o).sent ≡ (octets_by t s size o).sent
same-octets t s size held more o e = ap (λ (u : Turn). (octets_by u s size o).sent) e

-- no new PDU was sent in this TTI
first-busy : (b : Bool) → (b ≡ true → true ≡ false) → b ≡ false
first-busy true h = h refl
first-busy false h = refl

new-sound : (f : Flow) (size : ℕ) (held : Option ℕ) (more : Bool) → turn (sender f).state size held more ≡ turns.New
    → IsNew (sender f).state size (sender f).past (answer (sender f).state size held more)
    → IsTaking f size held more → IsSound f → IsSound (sends f (Take size held more))
new-sound f size held more e r g h =
    subst
    (λ (x : Taken). IsSound (record f {
      sent = f.sent ++ Take size held more ∷ [];
      copies = copies_with x f.copies;
      busy = f.busy || is_new x;
    })) (sym r.is)
    (sent-sound f (Take size held more) _ (f.busy || true) (record {
      offered = offered-more f.sent (Take size held more) h.offered tt;
      keeps = after-keeps s (Take size held more) o tt h.keeps;
      fits = after-fits s (Take size held more) (is_acked f) h.fits;
      aired = subst (λ (sent : List (List Place)). AllAired sent) (sym now) (aired-more o.sent ps h.aired aired);
      copies =
          subst (λ (sent : List (List Place)). AllByRecursion (IsTrueCopy sent)
          (record { number = length o.sent; octets = written (length o.sent) poll None ps } ∷ f.copies)) (sym now)
          (new-copy o.sent ps poll aired.some, copies-more held o.sent ps free f.copies g.lowest h.copies);
      reports =
          subst (λ (sent : List (List Place)). AllByRecursion
          (IsTrueReport (receiver f).kept (length sent) (f.busy || true)) f.reports) (sym now)
          (subst
          (λ (b : Bool). AllByRecursion (IsTrueReport (receiver f).kept (length (o.sent ++ ps ∷ [])) (b || true))
          f.reports) (sym idle)
          (reports-later (receiver f).kept (length o.sent) (length (o.sent ++ ps ∷ [])) false true (omega (arith, l))
          (omega (arith, l)) f.reports
          (subst (λ (b : Bool). AllByRecursion (IsTrueReport (receiver f).kept (length o.sent) b) f.reports) idle
          h.reports)));
      entries = subst (λ (sent : List (List Place)). AllByRecursion (HasTrueEntries sent) f.reports) (sym now)
          (each (HasTrueEntries o.sent) (HasTrueEntries (o.sent ++ ps ∷ [])) (entries-more o.sent ps) f.reports
          h.entries);
      fair = stays-fair f (Take size held more) h tt;
      known = h.known;
      top = let t = h.top in let n = ap (λ (sent : List (List Place)). length sent) now in omega (arith, t, n, l);
      kept = subst (λ (sent : List (List Place)). AllByRecursion (IsKept sent) (receiver f).kept) (sym now)
          (each (IsKept o.sent) (IsKept (o.sent ++ ps ∷ [])) (kept-more o.sent ps) (receiver f).kept h.kept);
      some = h.some;
      honest = λ field agree. h.honest field (λ n lt.
          let m = subst (λ (sent : List (List Place)). Agree sent field) now agree n (omega (arith, lt, l)) in
          m ∙ ap cells_of (get_or_append_left o.sent (ps ∷ []) [] n lt));
    }))
  where
    s : State
    s = (sender f).state

    o : Octets
    o = (sender f).past

    poll : Bool
    poll = poll_of (answer (sender f).state size held more)

    ps : List Place
    ps = take (new_count (sender f).state size) (sender f).past.unsent

    l : length ((sender f).past.sent ++ ps ∷ []) ≡ length (sender f).past.sent + 1
    l = length-append (sender f).past.sent (ps ∷ [])

    now : (octets_after (sender f).state (Take size held more) (sender f).past).sent ≡ (sender f).past.sent ++ ps ∷ []
    now = same-octets turns.New (sender f).state size held more (sender f).past e

    aired : IsAired ps
    aired = new-aired (sender f).state size (sender f).past g.few (new-able (sender f).state size held more e)
        h.keeps.faces

    free : is_held held (length (sender f).past.sent) ≡ false
    free = ap (λ (n : ℕ). is_held held n) (sent-number f h) ∙ not-held (sender f).state size held more e

    idle : f.busy ≡ false
    idle = first-busy f.busy (λ b. ap is_new (sym r.is) ∙ g.one b)

-- ---- any call of `take`

taken-sound : (f : Flow) (size : ℕ) (held : Option ℕ) (more : Bool) (t : Turn)
    → turn (sender f).state size held more ≡ t
    → IsWritten t (sender f).state size (sender f).past (answer (sender f).state size held more)
    → IsTaking f size held more → IsSound f → IsSound (sends f (Take size held more))
taken-sound f size held more turns.New e r g h = new-sound f size held more e r g h
taken-sound f size held more turns.Whole e r g h =
    again-sound f size held more _ _ (answer (sender f).state size held more)
    (same-octets turns.Whole (sender f).state size held more (sender f).past e) r h
taken-sound f size held more turns.Part e r g h =
    again-sound f size held more _ _ (answer (sender f).state size held more)
    (same-octets turns.Part (sender f).state size held more (sender f).past e) r h
taken-sound f size held more turns.Idle e r g h =
    none-sound f size held more (answer (sender f).state size held more)
    (same-octets turns.Idle (sender f).state size held more (sender f).past e) r h
taken-sound f size held more turns.Stopped e r g h =
    none-sound f size held more (answer (sender f).state size held more)
    (same-octets turns.Stopped (sender f).state size held more (sender f).past e) r h
taken-sound f size held more turns.Small e r g h =
    none-sound f size held more (answer (sender f).state size held more)
    (same-octets turns.Small (sender f).state size held more (sender f).past e) r h
taken-sound f size held more turns.Shut e r g h =
    none-sound f size held more (answer (sender f).state size held more)
    (same-octets turns.Shut (sender f).state size held more (sender f).past e) r h
taken-sound f size held more turns.Held e r g h =
    none-sound f size held more (answer (sender f).state size held more)
    (same-octets turns.Held (sender f).state size held more (sender f).past e) r h

pub sends-sound : (f : Flow) (c : SenderCall) → IsSending f c → IsSound f → IsSound (sends f c)
sends-sound f (Offer sdu) g h =
    stays-sound f (Offer sdu) f.copies (f.busy || false) g refl refl h.copies (same-busy f.busy) h
sends-sound f (Take size held more) g h =
    taken-sound f size held more (turn (sender f).state size held more) refl
    (writes f.sending f.sent size held more h.offered) g h
sends-sound f (Status status) g h = absurd g
sends-sound f Tick g h = stays-sound f Tick f.copies (f.busy || false) tt refl refl h.copies (same-busy f.busy) h
sends-sound f (Expire more) g h =
    stays-sound f (Expire more) f.copies (f.busy || false) tt refl refl h.copies (same-busy f.busy) h
sends-sound f (Settle more) g h =
    stays-sound f (Settle more) f.copies (f.busy || false) tt refl refl h.copies (same-busy f.busy) h
sends-sound f Confirm g h = stays-sound f Confirm f.copies (f.busy || false) tt refl refl h.copies (same-busy f.busy) h
