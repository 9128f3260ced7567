-- A direction of an unacknowledged bearer in a life, beside what is told of its losses: what its end that sends does.
use Rattle.std.proofs.Common.{◌≡◌, ◌⊎◌, inl, inr, ◌<◌, ◌≤◌, ℕ, zero, suc, ◌+◌, ◌-◌, ◌%◌, ◌^◌, Bool, true, false, not}
use Rattle.std.proofs.Common.{if◌then◌else◌, List, [], ◌∷◌, ◌++◌, map, length, get_or-set_same, get_or-set_other}
use Rattle.std.proofs.Common.{Option, Some, None, is_some, Ok, slice_get, slice_set, slice_index_or, append-nil}
use Rattle.std.proofs.Common.{append_assoc, length-append, refl, ap, sym, subst, ◌∙◌, arith}
use Rattle.std.proofs.lemmas.Bool.Decides.{nat_tests}
use Rattle.std.proofs.lemmas.List.{length-map}
use Rattle.std.proofs.Math.ListN.{length-set}
use Rattle.std.specs.List.{AllByRecursion}
use Rattle.law_rlc.specs.AmPair.Flow.{Copy, copies_with, except}
use Rattle.bearer.specs.declared.flow.Flow.TheVariants.{Um}
use Rattle.bearer.specs.Taking.{after as taken_from}
use Rattle.bearer.specs.Unacknowledged.State.{State}
use Rattle.bearer.specs.Unacknowledged.Taking.{feeding, size_in, answer, after_taking}
use Rattle.law_bearer.specs.AnyBearer.Calls.{Call, Submit, Take, Arrive, Expire, Tick, SetDiscard}
use Rattle.law_bearer.specs.AnyBearer.Stream.{takes, pdu_of as pdcp_pdu, um_offered}
use Rattle.law_bearer.proofs.AnyBearer.Flows.{is_offered}
use Rattle.law_deliver.proofs.AmFlow.Loads.{Load, all_copies}
use Rattle.law_deliver.proofs.AmFlow.Runs.{octets_of}
use Rattle.rlc_pdu.specs.Laws.{IsUmdInRange}
use Rattle.rlc_pdu.specs.Pdus.{UmdPdu, IsUmBits, AreLens}
use Rattle.rlc_pdu.specs.Reading.{umd_at}
use Rattle.rlc_queue.specs.NewPdu.{framing}
use Rattle.rlc_queue.proofs.Lens.{within}
use Rattle.rlc_queue.specs.Waiting.{HaveOctets}
use Rattle.rlc_um.specs.Joined.{Parts, parts_of, Joined, with_elements, with_number}
use Rattle.rlc_um.specs.Sender.{Sender, Turn, Gives, IsIdle, IsHeld as TurnsHeld, IsSmall, turn, taken}
use Rattle.rlc_um.specs.Sender.{answer as turn_answer, after_turn, after_take, pdu_of, pieces, ends_partly, offered}
use Rattle.rlc_um.specs.Sender.{width_of, head_of}
use Rattle.law_deliver.specs.UmFlow.Calls.{calls_in}
use Rattle.law_deliver.specs.UmFlow.Handing.{all_called}
use Rattle.law_deliver.specs.UmFlow.Pair.{BearerEnd, Deed, Calls, called, does, HasOctet, IsDone}
use Rattle.law_deliver.specs.UmFlow.Runs.{sender_steps, all_sender_steps}
use Rattle.law_deliver.proofs.UmChannel.Deeds.{does_all, AreDone, all_calls_in}
use Rattle.law_deliver.proofs.UmFlow.Calls.{called_then, steps_then}
use Rattle.law_deliver.proofs.UmFlow.Flows.{IsOn, from_on}
use Rattle.law_deliver.proofs.UmFlow.Numbers.{flow_more, sent_grows, at_left, at_last, octets_push}
use Rattle.law_deliver.proofs.UmFlow.Sending.{IsNoTake, called_alike}
use Rattle.law_deliver.proofs.UmFlow.Standing.{IsCopyOf, turn_given, in_range, goes_take}
use Rattle.law_rlc.specs.UmPair.Run.{fresh}
use Rattle.law_rlc.specs.UmPair.Send.{Step, Offer, Take as Takes, Flow as Made, made_by, goes, flow, at_first, joined}
use Rattle.law_rlc.proofs.UmPair.Whole.{joined-more}
use Rattle.um_losses.specs.Flow.{Flow, after}
use Rattle.um_losses.specs.declared.pdu.Pdu.{Pdu}
use Rattle.um_losses.specs.declared.sending.InFlight.{InFlight}
use Rattle.um_losses.specs.declared.flow.Happening.{Happening}
use Rattle.um_losses.specs.declared.flow.Happening.TheVariants.{BlockRenewed, PduWritten}
use Rattle.um_losses.specs.Pdus.{is_pdu, ends_in}
use Rattle.um_losses.specs.Sending.{written as written_into}
use Rattle.um_losses.specs.Tags.{tags, tagged}
use Rattle.um_losses.specs.Told.{all_after}
use Rattle.law_deliver.specs.UmGaps.Whats.{fields, as_written, written as written_whats}
use Rattle.law_deliver.proofs.UmGaps.Tags.{AllAlike, alike_push, alike_many, tagged_alike, AreTagged, elements_tag}
use Rattle.law_deliver.proofs.UmGaps.Tracking.{made_in, Written, IsUnder, Tracks}

-- ---- the PDUs that are made

made_then : (bits : ℕ) (a : State) (xs more : List Call) (d : State) → all_called a xs ≡ d
    → made_in bits a (xs ++ more)
    ≡ (flow (all_sender_steps d more) (flow (all_sender_steps a xs) (at_first bits))).made
made_then bits a xs more d q =
    ap (λ (ss : List Step). (flow ss (at_first bits)).made) (steps_then a xs more)
    ∙ ap (λ (f : Made). f.made)
    (flow_more (all_sender_steps a xs) (all_sender_steps (all_called a xs) more) (at_first bits))
    ∙ ap (λ (s : State). (flow (all_sender_steps s more) (flow (all_sender_steps a xs) (at_first bits))).made) q

-- none where nothing is taken
made_none : (bits : ℕ) (a : State) (xs more : List Call) (d : State) → all_called a xs ≡ d
    → all_sender_steps d more ≡ [] → made_in bits a (xs ++ more) ≡ made_in bits a xs
made_none bits a xs more d q none = made_then bits a xs more d q
    ∙ ap (λ (ss : List Step). (flow ss (flow (all_sender_steps a xs) (at_first bits))).made) none

steps_none : (b : State) (c : Call) → IsNoTake c → sender_steps b c ≡ []
steps_none b (Submit sdu) n = refl
steps_none b (Take share held) n = absurd n
steps_none b (Arrive pdu) n = refl
steps_none b (Expire clock) n = refl
steps_none b Tick n = refl
steps_none b (SetDiscard ttis) n = refl

quiet_steps : (b : State) (cs : List Call) → AllByRecursion IsNoTake cs → all_sender_steps b cs ≡ []
quiet_steps b [] q = refl
quiet_steps b (c ∷ cs) q = ap (λ (ss : List Step). ss ++ all_sender_steps (called b c) cs) (steps_none b c q.0)
    ∙ quiet_steps (called b c) cs q.1

quiet_tx : (b : State) (cs : List Call) → AllByRecursion IsNoTake cs → (all_called b cs).tx ≡ b.tx
quiet_tx b [] q = refl
quiet_tx b (c ∷ cs) q = quiet_tx (called b c) cs q.1 ∙ (called_alike b c q.0).tx_is

offers_flow : (pdus : List (List ℕ)) (f : Made) → (flow (map (λ pdu. Offer pdu) pdus) f).made ≡ f.made
offers_flow [] f = refl
offers_flow (pdu ∷ pdus) f = offers_flow pdus (goes f (Offer pdu))

offers_sender : (pdus : List (List ℕ)) (f : Made)
    → (flow (map (λ pdu. Offer pdu) pdus) f).sender ≡ um_offered pdus f.sender
offers_sender [] f = refl
offers_sender (pdu ∷ pdus) f = offers_sender pdus (goes f (Offer pdu))

offers_begun : (pdus : List (List ℕ)) (s : Sender) → (um_offered pdus s).waiting.begun ≡ s.waiting.begun
offers_begun [] s = refl
offers_begun (pdu ∷ pdus) s = offers_begun pdus (offered pdu s)

offers_next : (pdus : List (List ℕ)) (s : Sender) → (um_offered pdus s).next ≡ s.next
offers_next [] s = refl
offers_next (pdu ∷ pdus) s = offers_next pdus (offered pdu s)

offers_bits : (pdus : List (List ℕ)) (s : Sender) → (um_offered pdus s).bits ≡ s.bits
offers_bits [] s = refl
offers_bits (pdu ∷ pdus) s = offers_bits pdus (offered pdu s)

offers_octets : (pdus : List (List ℕ)) (s : Sender) → AllByRecursion HasOctet pdus → HaveOctets s.waiting.sdus
    → HaveOctets (um_offered pdus s).waiting.sdus
offers_octets [] s some h = h
offers_octets (pdu ∷ pdus) s some h =
    offers_octets pdus (offered pdu s) some.1 (octets_push s.waiting.sdus pdu some.0 h)

write_is : (p : ℕ) (pdu : Pdu) (f : Flow) → is_pdu f.bits pdu ≡ true
    → after (PduWritten p pdu) f ≡ record f { sending = written_into p pdu f.sending }
write_is p pdu f e = rw e refl

-- ---- a new PDU with tags

framed : (begins ends : Bool) (sn : ℕ) (elements : List (List ℕ))
    → parts_of (record { sn = sn; fi = framing begins ends; elements = elements })
    ≡ record { begins = begins; ends = ends; elements = elements }
framed true true sn elements = refl
framed true false sn elements = refl
framed false true sn elements = refl
framed false false sn elements = refl

rest_of : (begins ends : Bool) → framing begins ends % 2 ≡ (if ends then 0 else 1)
rest_of true true = refl
rest_of true false = refl
rest_of false true = refl
rest_of false false = refl

few_of : (begins ends : Bool) → framing begins ends < 4
few_of true true = omega arith
few_of true false = omega arith
few_of false true = omega arith
few_of false false = omega arith

begins_so : (begun : Bool) (j : Joined) → is_some j.part ≡ begun → (not begun ≡ true) ⊎ (is_some j.part ≡ true)
begins_so true j e = inr e
begins_so false j e = inl refl

not_not : (b : Bool) → not (not b) ≡ b
not_not true = refl
not_not false = refl

last_few : (b : Bool) → (if b then 0 else 1) ≤ 1
last_few true = omega arith
last_few false = omega arith

tag_pdu : (n ended sn : ℕ) (begun partly : Bool) (elements : List (List ℕ)) (j : Joined) → length elements ≡ suc n
    → AreTagged ended begun j
    → AreTagged
    (ended + ends_in (fields (record { sn = sn; fi = framing (not begun) (not partly); elements = elements }))) partly
    (with_number
    (Some
    (parts_of
    (tagged (Some ended)
    (fields (record { sn = sn; fi = framing (not begun) (not partly); elements = elements }))))) j)
tag_pdu n ended sn begun partly elements j many h =
    let p : UmdPdu = record { sn = sn; fi = framing (not begun) (not partly); elements = elements } in
    let last : ℕ = if not partly then 0 else 1 in
    let t = ended + 1 in
    let e = h.ended_is in
    let next : t ≡ length j.ready + 1 = omega (arith, e) in
    let all = elements_tag n (not begun) (not partly) t j (begins_so begun j h.open_is) next h.ready in
    let rest : p.fi % 2 ≡ last = rest_of (not begun) (not partly) in
    let few = last_few (not partly) in
    let same : (t + n) - last ≡ ended + ends_in (fields p) = omega (arith, many, rest, few) in
    let elements_are : with_elements (not begun) (not partly) (tags t 1 (suc n)) j
    ≡ with_number (Some (parts_of (tagged (Some ended) (fields p)))) j =
    ap (λ (m : ℕ). with_elements (not begun) (not partly) (tags t 1 m) j) (sym many)
    ∙ ap (λ (x : Parts). with_number (Some x) j)
    (sym (framed (not begun) (not partly) sn (tags t 1 (length elements)))) in
    subst (AreTagged (ended + ends_in (fields p)) partly) elements_are
    (subst (λ (b : Bool). AreTagged (ended + ends_in (fields p)) b
    (with_elements (not begun) (not partly) (tags t 1 (suc n)) j)) (not_not partly)
    (subst (λ (m : ℕ). AreTagged m (not (not partly)) (with_elements (not begun) (not partly) (tags t 1 (suc n)) j))
    same all))

some_lens : (elements : List (List ℕ)) → AreLens (map length elements) → 0 < length elements
some_lens [] h = absurd h
some_lens (x ∷ xs) h = omega arith

less_one : (n : ℕ) → 0 < n → n ≡ suc (n - 1)
less_one n h = omega (arith, h)

ranged : (bits : ℕ) (p : UmdPdu) → p.sn < 2 ^ bits → p.fi < 4 → 0 < length p.elements → length p.elements ≤ 9422
    → is_pdu bits (fields p) ≡ true
ranged bits p a b c d = grind (arith, nat_tests, a, b, c, d)

-- a PDU has at most as many elements as octets
few_elements : (tx : Sender) (size : ℕ) → 0 < length tx.waiting.sdus → head_of tx.bits < size → size ≤ 9422
    → length (pdu_of tx size).elements ≤ 9422
few_elements tx size some room few =
    let all = within (head_of tx.bits) size tx.waiting.sdus some room in
    let same = length-map (pieces tx size) (λ (x : List ℕ). length x) in
    omega (arith, all, same, few)

-- ---- what is under way

under_more : (bits : ℕ) (tm : List UmdPdu) (q : UmdPdu) (under : List (Option InFlight)) (loads : List Load)
    → AllByRecursion (IsUnder bits tm under) loads → AllByRecursion (IsUnder bits (tm ++ q ∷ []) under) loads
under_more bits tm q under [] h = tt
under_more bits tm q under (x ∷ xs) h = (one h.0, under_more bits tm q under xs h.1)
  where
    one : IsUnder bits tm under x → IsUnder bits (tm ++ q ∷ []) under x
    one (inl none) = inl none
    one (inr f) = inr (record {
      copy = f.copy;
      copies_are = f.copies_are;
      flying = f.flying;
      is = f.is;
      number_is = f.number_is;
      there = at_left tm (q ∷ []) f.copy.number (tagged (Some f.flying.first) f.flying.pdu) f.there;
      range = f.range;
    })

under_set : (bits : ℕ) (tm : List UmdPdu) (under : List (Option InFlight)) (p : ℕ) (y : Option InFlight)
    (loads : List Load) → AllByRecursion (λ (x : Load). x.block.process ≡ p → ⊥) loads
    → AllByRecursion (IsUnder bits tm under) loads → AllByRecursion (IsUnder bits tm (slice_set under p y)) loads
under_set bits tm under p y [] apart h = tt
under_set bits tm under p y (x ∷ xs) apart h = (one h.0, under_set bits tm under p y xs apart.1 h.1)
  where
    same : slice_index_or (slice_set under p y) x.block.process None ≡ slice_index_or under x.block.process None
    same = get_or-set_other under p x.block.process y None apart.0

    one : IsUnder bits tm under x → IsUnder bits tm (slice_set under p y) x
    one (inl none) = inl (none.0, same ∙ none.1)
    one (inr f) =
        inr (record {
          copy = f.copy;
          copies_are = f.copies_are;
          flying = f.flying;
          is = same ∙ f.is;
          number_is = f.number_is;
          there = f.there;
          range = f.range;
        })

pub under_except : (bits : ℕ) (tm : List UmdPdu) (under : List (Option InFlight)) (k : ℕ) (loads : List Load)
    → AllByRecursion (IsUnder bits tm under) loads → AllByRecursion (IsUnder bits tm under) (except k loads)
under_except bits tm under k [] h = h
under_except bits tm under zero (x ∷ xs) h = h.1
under_except bits tm under (suc k) (x ∷ xs) h = (h.0, under_except bits tm under k xs h.1)

module _ (bits reorder counts : ℕ) (u : IsUmBits bits) where
  -- ---- deeds that make no PDU

  from_on_all : (a : State) (xs : List Call) (b : State) (ys : List Call) (n m : BearerEnd) (ds : List Deed)
      → AreDone m n ds → IsOn bits reorder a xs b ys n m
      → IsOn bits reorder a (xs ++ all_calls_in m ds) b ys (does_all m n ds) m
  from_on_all a xs b ys n m [] g h = subst (λ (cs : List Call). IsOn bits reorder a cs b ys n m) (sym (append-nil xs)) h
  from_on_all a xs b ys n m (d ∷ ds) g h =
      subst (λ (cs : List Call). IsOn bits reorder a cs b ys (does_all m (does m n d) ds) m)
      (append_assoc xs (calls_in m d) (all_calls_in m ds))
      (from_on_all a (xs ++ calls_in m d) b ys (does m n d) m ds g.1 (from_on bits reorder u a xs b ys n m d g.0 h))

  pub from_quiet : (a : State) (xs : List Call) (b : State) (ys : List Call) (n m : BearerEnd)
      (loads more : List Load) (f : Flow) (ds : List Deed) (cs : List Call) → AreDone m n ds → all_calls_in m ds ≡ cs
      → AllByRecursion IsNoTake cs
      → (h : Tracks bits reorder counts a xs b ys n m loads f) → (does_all m n ds).copies ≡ all_copies more
      → AllByRecursion (IsUnder bits h.tm f.sending.under_way) more
      → Tracks bits reorder counts a (xs ++ cs) b ys (does_all m n ds) m more f
  from_quiet a xs b ys n m loads more f ds cs g are quiet h copies under =
      let on : IsOn bits reorder a (xs ++ cs) b ys (does_all m n ds) m =
      subst (λ (l : List Call). IsOn bits reorder a (xs ++ l) b ys (does_all m n ds) m) are
      (from_on_all a xs b ys n m ds g h.on) in
      let none = quiet_steps n.bearer cs quiet in
      let left : all_called n.bearer cs ≡ (does_all m n ds).bearer =
      ap (λ (s : State). all_called s cs) (sym h.on.from_is) ∙ sym (called_then a xs cs) ∙ on.from_is in
      let tx : (does_all m n ds).bearer.tx ≡ n.bearer.tx =
      ap (λ (s : State). s.tx) (sym left) ∙ quiet_tx n.bearer cs quiet in
      record {
        on = on;
        tm = h.tm;
        calls = h.calls;
        heard = h.heard;
        idle = h.idle;
        written = subst (λ (made : List UmdPdu). Written made h.tm (does_all m n ds).bearer.tx.waiting.begun f)
            (sym (made_none bits a xs cs n.bearer h.on.from_is none))
            (subst (λ (s : Sender). Written (made_in bits a xs) h.tm s.waiting.begun f) (sym tx) h.written);
        copies_are = copies;
        under = under;
      }

  -- ---- a process begins a new block

  pub begins_block : (a : State) (xs : List Call) (b : State) (ys : List Call) (n m : BearerEnd) (loads : List Load)
      (f : Flow) (x : Load) → x.copies ≡ [] → x.block.process < 8
      → AllByRecursion (λ (y : Load). y.block.process ≡ x.block.process → ⊥) loads
      → Tracks bits reorder counts a xs b ys n m loads f
      → Tracks bits reorder counts a xs b ys n m (x ∷ loads) (after (BlockRenewed x.block.process) f)
  begins_block a xs b ys n m loads f x none few apart h =
      let p = x.block.process in
      let old = f.sending.under_way in
      let lt : p < length old = omega (arith, few, h.written.many) in
      record {
        on = h.on;
        tm = h.tm;
        calls = h.calls;
        heard = record {
          sent' = h.heard.sent';
          same = h.heard.same;
          state_is = h.heard.state_is;
          bits_are = h.heard.bits_are;
          width_is = h.heard.width_is;
          counts_are = h.heard.counts_are;
          top_is = h.heard.top_is;
          next_is = h.heard.next_is;
          long_is = h.heard.long_is;
        };
        idle = h.idle;
        written = record {
          alike = h.written.alike;
          tagged' = h.written.tagged';
          number_is = h.written.number_is;
          many = length-set old p None ∙ h.written.many;
        };
        copies_are = h.copies_are ∙ ap (λ (cs : List Copy). cs ++ all_copies loads) (sym none);
        under = (inl (none, get_or-set_same old p None None lt), under_set bits h.tm old p None loads apart h.under);
      }

  -- ---- a PDU is taken, behind that

  takes_so : (b : State) (share : ℕ) (held : Option ℕ)
      → (called b (Take share held)).tx ≡ after_take (feeding b share held).tx (size_in share) held
  unfolding taken_from after_taking
  takes_so b share held = refl

  answers_so : (b : State) (share : ℕ) (held : Option ℕ)
      → answer b share held ≡ turn_answer (turn (feeding b share held).tx (size_in share) held)
      (feeding b share held).tx (size_in share)
  unfolding answer taken
  answers_so b share held = refl

  after_so : (s : Sender) (size : ℕ) (held : Option ℕ) → after_take s size held ≡ after_turn (turn s size held) s size
  unfolding after_take
  after_so s size held = refl

  -- what the sender makes as it takes
  made_taken : (a : State) (xs : List Call) (b : State) (ys : List Call) (n m : BearerEnd) (share : ℕ)
      (held : Option ℕ) (t : Turn) → turn (feeding n.bearer share held).tx (size_in share) held ≡ t
      → IsOn bits reorder a xs b ys n m
      → made_in bits a (xs ++ Take share held ∷ []) ≡ made_in bits a xs
      ++ made_by t (feeding n.bearer share held).tx (size_in share)
  made_taken a xs b ys n m share held t q on =
      let d : State = n.bearer in
      let size = size_in share in
      let s : Sender = (feeding d share held).tx in
      let pdus = map (pdcp_pdu d.pdcp.tx) (takes (Um d) (Take share held)) in
      let offers : List Step = map (λ pdu. Offer pdu) pdus in
      let g : Made = flow (all_sender_steps a xs) (at_first bits) in
      let sender : g.sender ≡ d.tx = ap (λ (f : Made). f.sender) on.stands.f_is ∙ on.stands.sender_is in
      let fed : (flow offers g).sender ≡ s = offers_sender pdus g ∙ ap (um_offered pdus) sender
      ∙ sym (is_offered (Um d) share held) in
      made_then bits a xs (Take share held ∷ []) d on.from_is
      ∙ ap (λ (ss : List Step). (flow ss g).made) (append-nil (offers ++ Takes size held ∷ []))
      ∙ ap (λ (f : Made). f.made) (flow_more offers (Takes size held ∷ []) g
      ∙ goes_take (flow offers g) s size held t fed q)
      ∙ ap (λ (l : List UmdPdu). l ++ made_by t s size) (offers_flow pdus g)

  -- where none is given
  takes_none : (a : State) (xs : List Call) (b : State) (ys : List Call) (n m : BearerEnd) (loads : List Load)
      (f : Flow) (share : ℕ) (held : Option ℕ) (x : Load) (t : Turn)
      → turn (feeding n.bearer share held).tx (size_in share) held ≡ t
      → ((s : Sender) (size : ℕ) (cs : List Copy) → copies_with (turn_answer t s size) cs ≡ cs)
      → ((s : Sender) (size : ℕ) → made_by t s size ≡ []) → ((s : Sender) (size : ℕ) → after_turn t s size ≡ s)
      → IsDone n (Calls (Take share held)) → x.copies ≡ copies_with (answer n.bearer share held) []
      → x.block.process < 8
      → AllByRecursion (λ (y : Load). y.block.process ≡ x.block.process → ⊥) loads
      → Tracks bits reorder counts a xs b ys n m loads f
      → Tracks bits reorder counts a (xs ++ Take share held ∷ []) b ys (does m n (Calls (Take share held))) m
      (x ∷ loads) (all_after (written_whats bits x.block.process (octets_of x.copies))
      (after (BlockRenewed x.block.process) f))
  takes_none a xs b ys n m loads f share held x t q same none stays g copies few apart h =
      let d : State = n.bearer in
      let size = size_in share in
      let s : Sender = (feeding d share held).tx in
      let pdus = map (pdcp_pdu d.pdcp.tx) (takes (Um d) (Take share held)) in
      let p = x.block.process in
      let k : Flow = after (BlockRenewed p) f in
      let gives_so : answer d share held ≡ turn_answer t s size =
      answers_so d share held ∙ ap (λ (y : Turn). turn_answer y s size) q in
      let empty : x.copies ≡ [] = copies ∙ ap (λ y. copies_with y []) gives_so ∙ same s size [] in
      let one : Tracks bits reorder counts a xs b ys n m (x ∷ loads) k =
      begins_block a xs b ys n m loads f x empty few apart h in
      let tx : (called d (Take share held)).tx ≡ s = takes_so d share held ∙ after_so s size held
      ∙ ap (λ (y : Turn). after_turn y s size) q ∙ stays s size in
      let begun : (called d (Take share held)).tx.waiting.begun ≡ d.tx.waiting.begun =
      ap (λ (y : Sender). y.waiting.begun) (tx ∙ is_offered (Um d) share held) ∙ offers_begun pdus d.tx in
      let made : made_in bits a (xs ++ Take share held ∷ []) ≡ made_in bits a xs =
      made_taken a xs b ys n m share held t q h.on
      ∙ ap (λ (l : List UmdPdu). made_in bits a xs ++ l) (none s size) ∙ append-nil (made_in bits a xs) in
      let last : k ≡ all_after (written_whats bits p (octets_of x.copies)) k =
      ap (λ (cs : List Copy). all_after (written_whats bits p (octets_of cs)) k) (sym empty) in
      subst (Tracks bits reorder counts a (xs ++ Take share held ∷ []) b ys (does m n (Calls (Take share held))) m
      (x ∷ loads)) last
      (record {
        on = from_on bits reorder u a xs b ys n m (Calls (Take share held)) g h.on;
        tm = one.tm;
        calls = one.calls;
        heard = one.heard;
        idle = one.idle;
        written = subst (λ (l : List UmdPdu). Written l one.tm (called d (Take share held)).tx.waiting.begun k)
            (sym made) (subst (λ (y : Bool). Written (made_in bits a xs) one.tm y k) (sym begun) one.written);
        copies_are = ap (λ y. copies_with y n.copies) gives_so ∙ same s size n.copies ∙ one.copies_are;
        under = one.under;
      })

  -- where one is
  takes_one : (a : State) (xs : List Call) (b : State) (ys : List Call) (n m : BearerEnd) (loads : List Load)
      (f : Flow) (share : ℕ) (held : Option ℕ) (x : Load) → share ≤ 9424
      → turn (feeding n.bearer share held).tx (size_in share) held ≡ Gives
      → IsDone n (Calls (Take share held)) → x.copies ≡ copies_with (answer n.bearer share held) []
      → x.block.process < 8
      → AllByRecursion (λ (y : Load). y.block.process ≡ x.block.process → ⊥) loads
      → Tracks bits reorder counts a xs b ys n m loads f
      → Tracks bits reorder counts a (xs ++ Take share held ∷ []) b ys (does m n (Calls (Take share held))) m
      (x ∷ loads) (all_after (written_whats bits x.block.process (octets_of x.copies))
      (after (BlockRenewed x.block.process) f))
  takes_one a xs b ys n m loads f share held x most q g copies few apart h =
      let d : State = n.bearer in
      let size = size_in share in
      let s : Sender = (feeding d share held).tx in
      let pdus = map (pdcp_pdu d.pdcp.tx) (takes (Um d) (Take share held)) in
      let p = x.block.process in
      let pdu : UmdPdu = pdu_of s size in
      let on = from_on bits reorder u a xs b ys n m (Calls (Take share held)) g h.on in
      let st = on.stands in
      let old = h.on.stands in
      let gives_so : answer d share held ≡ turn_answer Gives s size =
      answers_so d share held ∙ ap (λ (y : Turn). turn_answer y s size) q in
      let c : Copy = record { number = s.next; octets = _ } in
      let own : x.copies ≡ c ∷ [] = copies ∙ ap (λ y. copies_with y []) gives_so in
      let all : copies_with (answer d share held) n.copies ≡ c ∷ n.copies = ap (λ y. copies_with y n.copies) gives_so in
      let made : made_in bits a (xs ++ Take share held ∷ []) ≡ made_in bits a xs ++ pdu ∷ [] =
      made_taken a xs b ys n m share held Gives q h.on in
      let copy : IsCopyOf bits st.f.made c =
      (subst (λ (cs : List Copy). AllByRecursion (IsCopyOf bits st.f.made) cs) all st.copies_are).0 in
      let fed : s ≡ um_offered pdus d.tx = is_offered (Um d) share held in
      let begun : d.tx.waiting.begun ≡ s.waiting.begun =
      sym (ap (λ (y : Sender). y.waiting.begun) fed ∙ offers_begun pdus d.tx) in
      let before : List UmdPdu = made_in bits a xs in
      let long : s.next ≡ length before =
      ap (λ (y : Sender). y.next) fed ∙ offers_next pdus d.tx ∙ old.next_is
      ∙ ap (λ (g : Made). length g.made) (sym old.f_is) in
      let now : st.f.made ≡ before ++ pdu ∷ [] = ap (λ (g : Made). g.made) (sym st.f_is) ∙ made in
      let found : Some copy.pdu ≡ Some pdu =
      sym copy.is ∙ ap (λ (l : List UmdPdu). slice_get l s.next) now ∙ ap (slice_get (before ++ pdu ∷ [])) long
      ∙ at_last before pdu in
      let which : copy.pdu ≡ pdu = cc in
      let read : umd_at bits c.octets ≡ Ok pdu = copy.read ∙ ap (λ (y : UmdPdu). Ok y) which in
      let known : IsUmBits s.bits =
      subst IsUmBits (sym (ap (λ (y : Sender). y.bits) fed ∙ offers_bits pdus d.tx ∙ old.bits_are)) u in
      let octets : HaveOctets s.waiting.sdus =
      subst (λ (y : Sender). HaveOctets y.waiting.sdus) (sym fed) (offers_octets pdus d.tx g.some old.some) in
      let given = turn_given s size held q in
      let in' : IsUmdInRange s.bits pdu = in_range s size held known octets given in
      let bits_are : s.bits ≡ bits = ap (λ (y : Sender). y.bits) fed ∙ offers_bits pdus d.tx ∙ old.bits_are in
      let range : is_pdu bits (fields pdu) ≡ true =
      ranged bits pdu (subst (λ (v : ℕ). pdu.sn < 2 ^ v) bits_are in'.number)
      (few_of (not s.waiting.begun) (not (ends_partly s size))) (some_lens pdu.elements in'.lens)
      (few_elements s size given.wait given.room' (omega (arith, most))) in
      let k : Flow = after (BlockRenewed p) f in
      let told : written_whats bits p (octets_of x.copies) ≡ PduWritten p (fields pdu) ∷ [] =
      ap (λ (cs : List Copy). written_whats bits p (octets_of cs)) own ∙ ap (λ r. as_written p r ++ []) read in
      let next : Flow = record k { sending = written_into p (fields pdu) k.sending } in
      let goes_to : all_after (written_whats bits p (octets_of x.copies)) k ≡ next =
      ap (λ (ws : List Happening). all_after ws k) told
      ∙ write_is p (fields pdu) k (ap (λ (v : ℕ). is_pdu v (fields pdu)) h.heard.bits_are ∙ range) in
      let first = f.sending.ended in
      let tag : UmdPdu = tagged (Some first) (fields pdu) in
      let tm : List UmdPdu = h.tm ++ tag ∷ [] in
      let flying : InFlight = record { number = f.sending.sent; first = first; pdu = fields pdu } in
      let under = f.sending.under_way in
      let empty = slice_set under p None in
      let many : length empty ≡ 8 = length-set under p None ∙ h.written.many in
      let lt : p < length empty = omega (arith, few, many) in
      let same_many = alike_many before h.tm h.written.alike in
      let number : f.sending.sent ≡ s.next = h.written.number_is ∙ sym same_many ∙ sym long in
      let tx : (called d (Take share held)).tx ≡ after_turn Gives s size =
      takes_so d share held ∙ after_so s size held ∙ ap (λ (y : Turn). after_turn y s size) q in
      let some : 0 < length pdu.elements = some_lens pdu.elements in'.lens in
      let tagged_now : AreTagged (first + ends_in (fields pdu)) (ends_partly s size) (joined tm) =
      subst (AreTagged (first + ends_in (fields pdu)) (ends_partly s size)) (sym (joined-more h.tm tag))
      (tag_pdu (length pdu.elements - 1) first pdu.sn s.waiting.begun (ends_partly s size) pdu.elements (joined h.tm)
      (less_one (length pdu.elements) some)
      (subst (λ (y : Bool). AreTagged first y (joined h.tm)) begun h.written.tagged')) in
      subst (Tracks bits reorder counts a (xs ++ Take share held ∷ []) b ys (does m n (Calls (Take share held))) m
      (x ∷ loads)) (sym goes_to)
      (record {
        on = on;
        tm = tm;
        calls = h.calls;
        heard = record {
          sent' = sent_grows h.tm (tag ∷ []) (width_of bits) h.calls (fresh (width_of bits) 0) h.heard.sent';
          same = h.heard.same;
          state_is = h.heard.state_is;
          bits_are = h.heard.bits_are;
          width_is = h.heard.width_is;
          counts_are = h.heard.counts_are;
          top_is = h.heard.top_is;
          next_is = h.heard.next_is;
          long_is = h.heard.long_is;
        };
        idle = h.idle;
        written = record {
          alike = subst (λ (l : List UmdPdu). AllAlike l tm) (sym made)
              (alike_push before h.tm pdu tag h.written.alike (tagged_alike first pdu));
          tagged' = subst (λ (y : Sender). AreTagged (first + ends_in (fields pdu)) y.waiting.begun (joined tm))
              (sym tx) tagged_now;
          number_is = ap (λ (v : ℕ). v + 1) h.written.number_is ∙ sym (length-append h.tm (tag ∷ []));
          many = length-set empty p (Some flying) ∙ many;
        };
        copies_are = all ∙ ap (λ (cs : List Copy). c ∷ cs) h.copies_are
            ∙ ap (λ (cs : List Copy). cs ++ all_copies loads) (sym own);
        under = (
          inr (record {
            copy = c;
            copies_are = own;
            flying = flying;
            is = get_or-set_same empty p (Some flying) None lt;
            number_is = number;
            there = ap (slice_get tm) (long ∙ same_many) ∙ at_last h.tm tag;
            range = range;
          }),
          under_set bits tm empty p (Some flying) loads apart
              (under_set bits tm under p None loads apart (under_more bits h.tm tag under loads h.under)),
        );
      })

  -- either
  taken_by_turn : (a : State) (xs : List Call) (b : State) (ys : List Call) (n m : BearerEnd) (loads : List Load)
      (f : Flow) (share : ℕ) (held : Option ℕ) (x : Load) (t : Turn) → share ≤ 9424
      → turn (feeding n.bearer share held).tx (size_in share) held ≡ t
      → IsDone n (Calls (Take share held)) → x.copies ≡ copies_with (answer n.bearer share held) []
      → x.block.process < 8
      → AllByRecursion (λ (y : Load). y.block.process ≡ x.block.process → ⊥) loads
      → Tracks bits reorder counts a xs b ys n m loads f
      → Tracks bits reorder counts a (xs ++ Take share held ∷ []) b ys (does m n (Calls (Take share held))) m
      (x ∷ loads) (all_after (written_whats bits x.block.process (octets_of x.copies))
      (after (BlockRenewed x.block.process) f))
  taken_by_turn a xs b ys n m loads f share held x Gives most q g copies few apart h =
      takes_one a xs b ys n m loads f share held x most q g copies few apart h
  taken_by_turn a xs b ys n m loads f share held x IsIdle most q g copies few apart h =
      takes_none a xs b ys n m loads f share held x IsIdle q (λ s size cs. refl) (λ s size. refl) (λ s size. refl) g
      copies few apart h
  taken_by_turn a xs b ys n m loads f share held x TurnsHeld most q g copies few apart h =
      takes_none a xs b ys n m loads f share held x TurnsHeld q (λ s size cs. refl) (λ s size. refl) (λ s size. refl)
      g copies few apart h
  taken_by_turn a xs b ys n m loads f share held x IsSmall most q g copies few apart h =
      takes_none a xs b ys n m loads f share held x IsSmall q (λ s size cs. refl) (λ s size. refl) (λ s size. refl) g
      copies few apart h

  pub from_takes : (a : State) (xs : List Call) (b : State) (ys : List Call) (n m : BearerEnd) (loads : List Load)
      (f : Flow) (share : ℕ) (held : Option ℕ) (x : Load) → share ≤ 9424
      → IsDone n (Calls (Take share held)) → x.copies ≡ copies_with (answer n.bearer share held) []
      → x.block.process < 8
      → AllByRecursion (λ (y : Load). y.block.process ≡ x.block.process → ⊥) loads
      → Tracks bits reorder counts a xs b ys n m loads f
      → Tracks bits reorder counts a (xs ++ Take share held ∷ []) b ys (does m n (Calls (Take share held))) m
      (x ∷ loads) (all_after (written_whats bits x.block.process (octets_of x.copies))
      (after (BlockRenewed x.block.process) f))
  from_takes a xs b ys n m loads f share held x most g copies few apart h =
      taken_by_turn a xs b ys n m loads f share held x (turn (feeding n.bearer share held).tx (size_in share) held)
      most refl g copies few apart h
