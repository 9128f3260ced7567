-- In each direction the pair of bearers goes on as a run of RLC's sender and one of RLC's receiver.
use Rattle.std.proofs.Common.{◌≡◌, ◌≤◌, ℕ, zero, suc, ◌+◌, ◌*◌, List, [], ◌∷◌, ◌++◌, length, Option, Some, None}
use Rattle.std.proofs.Common.{slice_get, append_assoc, append-nil, refl, ap, sym, subst, ◌∙◌, arith}
use Rattle.std.specs.List.{AllByRecursion}
use Rattle.l2_num.specs.Ascending.{AreBetween}
use Rattle.rlc_pdu.specs.Pdus.{UmdPdu, IsUmBits}
use Rattle.rlc_um.specs.Sender.{Sender, idle_sender, width_of}
use Rattle.rlc_um.specs.Window.{top_of}
use Rattle.rlc_um.specs.Receiver.{State as Receiver, all_joined}
use Rattle.law_words.specs.Lists.{IsSubsequence}
use Rattle.bearer.specs.declared.flow.Flow.TheVariants.{Um}
use Rattle.bearer.specs.Unacknowledged.State.{State}
use Rattle.law_bearer.specs.AnyBearer.Calls.{Call, Arrive}
use Rattle.law_bearer.specs.AnyBearer.Stream.{stream}
use Rattle.law_rlc.specs.AmPair.Flow.{Copy, except}
use Rattle.law_rlc.specs.UmPair.Run.{Call as ReceiverCall, World, fresh}
use Rattle.law_rlc.specs.UmPair.Send.{Step as SenderStep, Flow}
use Rattle.law_rlc.specs.UmPair.Air.{AreSent}
use Rattle.law_words.specs.Lists.{those}
use Rattle.law_rlc.proofs.UmPair.Air.{delivered}
use Rattle.law_rlc.proofs.UmPair.Which.{hands_up_what_came as run_hands_up}
use Rattle.law_deliver.specs.UmFlow.Pair.{BearerEnd, Pair, Deed, Calls, Comes, Goes, Step, Near, Far, called, comes}
use Rattle.law_deliver.specs.UmFlow.Pair.{does, happens, goes, begins, um_pair_outset, IsDone, AreGiven, IsNear}
use Rattle.law_deliver.specs.UmFlow.Pair.{IsShort}
use Rattle.law_deliver.specs.UmFlow.Pair.{AreShortThere, AreShortBack}
use Rattle.law_deliver.specs.UmFlow.Calls.{arrives, calls_in, near_calls, far_calls}
use Rattle.law_deliver.specs.UmFlow.Handing.{hands, handed, all_called}
use Rattle.law_deliver.specs.UmFlow.Lives.{BeginsLife}
use Rattle.law_deliver.specs.UmFlow.Runs.{sender_steps, all_sender_steps, receiver_calls, all_receiver_calls}
use Rattle.law_deliver.specs.UmFlow.Flows.{Way, there as way_there, back as way_back, given as way_given}
use Rattle.law_deliver.specs.UmFlow.Flows.{heard as way_heard, sends, receives, IsFlow, IsRecent, AreRecent}
use Rattle.law_deliver.specs.UmFlow.Flows.{IsDelivered, places, last_places, IsWhatCameInLife, InEachDirection}
use Rattle.law_deliver.proofs.UmFlow.Numbers.{kept_some, front_some}
use Rattle.law_deliver.proofs.UmFlow.Standing.{Stands, IsCopyOf, begun, lets_go, tops}
use Rattle.law_deliver.proofs.UmFlow.Sending.{stays_set, sends_none, arrival_sends, calls_send}
use Rattle.law_deliver.proofs.UmFlow.Hearing.{hears_none, calls_hear, copy_hears, all_idle}
use Rattle.law_deliver.proofs.UmFlow.Calls.{given_in, called_then, handed_then, stream_then, steps_then, receives_then}
use Rattle.law_deliver.proofs.UmFlow.Calls.{deed_is}

-- ---- at both ends

pub all_at : {A : Type 0} (P : A → Type 0) (xs : List A) (k : ℕ) (x : A) → AllByRecursion P xs → slice_get xs k ≡ Some x
    → P x
all_at P [] k x h e = let no : None ≡ Some x = e in absurd cc
all_at P (y ∷ ys) zero x h e = let same : Some y ≡ Some x = e in let is : y ≡ x = cc in subst P is h.0
all_at P (y ∷ ys) (suc k) x h e = all_at P ys k x h.1 e

-- the calls that the bearers of a life have had, and what they have come to
pub record IsOn (bits reorder : ℕ) (a : State) (xs : List Call) (b : State) (ys : List Call) (from to : BearerEnd) :
    Type 0 where
  pub from_is : all_called a xs ≡ from.bearer
  pub to_is : all_called b ys ≡ to.bearer
  pub bits_are : to.bearer.bits ≡ bits
  pub stands : Stands bits reorder (all_sender_steps a xs) (all_receiver_calls b ys) from.bearer.tx to.bearer.rx
      from.copies (stream (Um a) xs) (handed b ys)

comes_bits : (e : BearerEnd) (o : Option Copy) → (comes e o).bearer.bits ≡ e.bearer.bits
comes_bits e None = refl
comes_bits e (Some c) = (stays_set e.bearer (Arrive c.octets)).bits_are

pub does_bits : (other e : BearerEnd) (d : Deed) → (does other e d).bearer.bits ≡ e.bearer.bits
does_bits other e (Calls c) = (stays_set e.bearer c).bits_are
does_bits other e (Comes k) = comes_bits e (slice_get other.copies k)
does_bits other e (Goes k) = refl

module _ (bits reorder : ℕ) (u : IsUmBits bits) where
  -- ---- a deed at the end that sends

  comes_sends : (e : BearerEnd) (o : Option Copy) (ss : List SenderStep) (cs : List ReceiverCall) (rx : Receiver)
      (given heard : List (List ℕ)) → Stands bits reorder ss cs e.bearer.tx rx e.copies given heard
      → Stands bits reorder (ss ++ all_sender_steps e.bearer (arrives o)) cs (comes e o).bearer.tx rx
      (comes e o).copies (given ++ stream (Um e.bearer) (arrives o)) heard
  comes_sends e None ss cs rx given heard h =
      sends_none bits reorder cs rx heard e.bearer e.bearer ss e.copies given refl h
  comes_sends e (Some c) ss cs rx given heard h =
      sends_none bits reorder cs rx heard e.bearer (called e.bearer (Arrive c.octets)) ss e.copies given
      (arrival_sends e.bearer c.octets) h

  sends_on : (to e : BearerEnd) (d : Deed) (ss : List SenderStep) (cs : List ReceiverCall) (rx : Receiver)
      (given heard : List (List ℕ)) → IsDone e d → Stands bits reorder ss cs e.bearer.tx rx e.copies given heard
      → Stands bits reorder (ss ++ all_sender_steps e.bearer (calls_in to d)) cs (does to e d).bearer.tx rx
      (does to e d).copies (given ++ stream (Um e.bearer) (calls_in to d)) heard
  sends_on to e (Calls c) ss cs rx given heard g h =
      let d : BearerEnd = does to e (Calls c) in
      subst (λ (l : List (List ℕ)). Stands bits reorder (ss ++ all_sender_steps e.bearer (c ∷ [])) cs d.bearer.tx rx
      d.copies (given ++ l) heard) (sym (append-nil (given_in e.bearer c)))
      (subst (λ (l : List SenderStep). Stands bits reorder (ss ++ l) cs d.bearer.tx rx d.copies
      (given ++ given_in e.bearer c) heard) (sym (append-nil (sender_steps e.bearer c)))
      (calls_send bits reorder cs rx heard e c ss given u g h))
  sends_on to e (Comes k) ss cs rx given heard g h = comes_sends e (slice_get to.copies k) ss cs rx given heard h
  sends_on to e (Goes k) ss cs rx given heard g h =
      sends_none bits reorder cs rx heard e.bearer e.bearer ss (except k e.copies) given refl
      (lets_go bits reorder ss cs e.bearer.tx rx e.copies given heard k h)

  pub from_on : (a : State) (xs : List Call) (b : State) (ys : List Call) (e to : BearerEnd) (d : Deed) → IsDone e d
      → IsOn bits reorder a xs b ys e to → IsOn bits reorder a (xs ++ calls_in to d) b ys (does to e d) to
  from_on a xs b ys e to d g h =
      let more : List Call = calls_in to d in
      let next : BearerEnd = does to e d in
      let steps : all_sender_steps a xs ++ all_sender_steps e.bearer more ≡ all_sender_steps a (xs ++ more) =
      ap (λ (s : State). all_sender_steps a xs ++ all_sender_steps s more) (sym h.from_is)
      ∙ sym (steps_then a xs more) in
      let given : stream (Um a) xs ++ stream (Um e.bearer) more ≡ stream (Um a) (xs ++ more) =
      ap (λ (s : State). stream (Um a) xs ++ stream (Um s) more) (sym h.from_is) ∙ sym (stream_then a xs more) in
      record {
        from_is = called_then a xs more ∙ ap (λ (s : State). all_called s more) h.from_is ∙ deed_is to e d;
        to_is = h.to_is;
        bits_are = h.bits_are;
        stands =
            subst (λ (l : List (List ℕ)). Stands bits reorder (all_sender_steps a (xs ++ more))
            (all_receiver_calls b ys) next.bearer.tx to.bearer.rx next.copies l (handed b ys)) given
            (subst (λ (l : List SenderStep). Stands bits reorder l (all_receiver_calls b ys) next.bearer.tx
            to.bearer.rx next.copies (stream (Um a) xs ++ stream (Um e.bearer) more) (handed b ys)) steps
            (sends_on to e d (all_sender_steps a xs) (all_receiver_calls b ys) to.bearer.rx (stream (Um a) xs)
            (handed b ys) g h.stands));
      }

  -- ---- a deed at the end that hears

  comes_heard : (from e : BearerEnd) (k : ℕ) (o : Option Copy) (ss : List SenderStep) (cs : List ReceiverCall)
      (given heard : List (List ℕ)) → slice_get from.copies k ≡ o → IsNear e.bearer.rx o → e.bearer.bits ≡ bits
      → Stands bits reorder ss cs from.bearer.tx e.bearer.rx from.copies given heard
      → Stands bits reorder ss (cs ++ all_receiver_calls e.bearer (arrives o)) from.bearer.tx (comes e o).bearer.rx
      from.copies given (heard ++ handed e.bearer (arrives o))
  comes_heard from e k None ss cs given heard q near b h =
      hears_none bits reorder ss from.bearer.tx from.copies given cs e.bearer.rx heard h
  comes_heard from e k (Some c) ss cs given heard q near b h =
      let d : BearerEnd = comes e (Some c) in
      subst (λ (l : List (List ℕ)). Stands bits reorder ss (cs ++ all_receiver_calls e.bearer (arrives (Some c)))
      from.bearer.tx d.bearer.rx from.copies given (heard ++ l)) (sym (append-nil _))
      (subst (λ (l : List ReceiverCall). Stands bits reorder ss (cs ++ l) from.bearer.tx d.bearer.rx from.copies given
      (heard ++ hands e.bearer (Arrive c.octets))) (sym (append-nil (receiver_calls e.bearer (Arrive c.octets))))
      (copy_hears bits reorder ss from.bearer.tx from.copies given e.bearer c cs heard u b h
      (all_at (IsCopyOf bits h.f.made) from.copies k c h.copies_are q) near))

  hears_on : (from e : BearerEnd) (d : Deed) (ss : List SenderStep) (cs : List ReceiverCall)
      (given heard : List (List ℕ)) → IsDone e d → IsShort from e d → e.bearer.bits ≡ bits
      → Stands bits reorder ss cs from.bearer.tx e.bearer.rx from.copies given heard
      → Stands bits reorder ss (cs ++ all_receiver_calls e.bearer (calls_in from d)) from.bearer.tx
      (does from e d).bearer.rx from.copies given (heard ++ handed e.bearer (calls_in from d))
  hears_on from e (Calls c) ss cs given heard g near b h =
      let d : BearerEnd = does from e (Calls c) in
      subst (λ (l : List (List ℕ)). Stands bits reorder ss (cs ++ all_receiver_calls e.bearer (c ∷ [])) from.bearer.tx
      d.bearer.rx from.copies given (heard ++ l)) (sym (append-nil (hands e.bearer c)))
      (subst (λ (l : List ReceiverCall). Stands bits reorder ss (cs ++ l) from.bearer.tx d.bearer.rx from.copies given
      (heard ++ hands e.bearer c)) (sym (append-nil (receiver_calls e.bearer c)))
      (calls_hear bits reorder ss from.bearer.tx from.copies given e c cs heard g h))
  hears_on from e (Comes k) ss cs given heard g near b h =
      comes_heard from e k (slice_get from.copies k) ss cs given heard refl near b h
  hears_on from e (Goes k) ss cs given heard g near b h =
      hears_none bits reorder ss from.bearer.tx from.copies given cs e.bearer.rx heard h

  pub to_on : (a : State) (xs : List Call) (b : State) (ys : List Call) (from e : BearerEnd) (d : Deed) → IsDone e d
      → IsShort from e d → IsOn bits reorder a xs b ys from e
      → IsOn bits reorder a xs b (ys ++ calls_in from d) from (does from e d)
  to_on a xs b ys from e d g near h =
      let more : List Call = calls_in from d in
      let next : BearerEnd = does from e d in
      let calls : all_receiver_calls b ys ++ all_receiver_calls e.bearer more ≡ all_receiver_calls b (ys ++ more) =
      ap (λ (s : State). all_receiver_calls b ys ++ all_receiver_calls s more) (sym h.to_is)
      ∙ sym (receives_then b ys more) in
      let heard : handed b ys ++ handed e.bearer more ≡ handed b (ys ++ more) =
      ap (λ (s : State). handed b ys ++ handed s more) (sym h.to_is) ∙ sym (handed_then b ys more) in
      record {
        from_is = h.from_is;
        to_is = called_then b ys more ∙ ap (λ (s : State). all_called s more) h.to_is ∙ deed_is from e d;
        bits_are = does_bits from e d ∙ h.bits_are;
        stands =
            subst (λ (l : List (List ℕ)). Stands bits reorder (all_sender_steps a xs)
            (all_receiver_calls b (ys ++ more)) from.bearer.tx next.bearer.rx from.copies (stream (Um a) xs) l)
            heard
            (subst (λ (l : List ReceiverCall). Stands bits reorder (all_sender_steps a xs) l from.bearer.tx
            next.bearer.rx from.copies (stream (Um a) xs) (handed b ys ++ handed e.bearer more)) calls
            (hears_on from e d (all_sender_steps a xs) (all_receiver_calls b ys) (stream (Um a) xs) (handed b ys) g
            near h.bits_are h.stands));
      }

  -- ---- any steps, from the near end to the far one

  there : (ss : List Step) (p : Pair) (a : State) (xs : List Call) (b : State) (ys : List Call) → AreGiven p ss
      → AreShortThere p ss → IsOn bits reorder a xs b ys p.near p.far
      → IsOn bits reorder a (xs ++ near_calls p ss) b (ys ++ far_calls p ss) (goes ss p).near (goes ss p).far
  there [] p a xs b ys g near h =
      subst (λ (l : List Call). IsOn bits reorder a l b (ys ++ []) p.near p.far) (sym (append-nil xs))
      (subst (λ (l : List Call). IsOn bits reorder a xs b l p.near p.far) (sym (append-nil ys)) h)
  there (Near d ∷ ss) p a xs b ys g near h =
      let q = happens p (Near d) in
      subst (λ (l : List Call). IsOn bits reorder a l b (ys ++ far_calls q ss) (goes ss q).near (goes ss q).far)
      (append_assoc xs (calls_in p.far d) (near_calls q ss))
      (there ss q a (xs ++ calls_in p.far d) b ys g.1 near (from_on a xs b ys p.near p.far d g.0 h))
  there (Far d ∷ ss) p a xs b ys g near h =
      let q = happens p (Far d) in
      subst (λ (l : List Call). IsOn bits reorder a (xs ++ near_calls q ss) b l (goes ss q).near (goes ss q).far)
      (append_assoc ys (calls_in p.near d) (far_calls q ss))
      (there ss q a xs b (ys ++ calls_in p.near d) g.1 near.1 (to_on a xs b ys p.near p.far d g.0 near.0 h))

  -- ---- and back

  back : (ss : List Step) (p : Pair) (a : State) (xs : List Call) (b : State) (ys : List Call) → AreGiven p ss
      → AreShortBack p ss → IsOn bits reorder a xs b ys p.far p.near
      → IsOn bits reorder a (xs ++ far_calls p ss) b (ys ++ near_calls p ss) (goes ss p).far (goes ss p).near
  back [] p a xs b ys g near h =
      subst (λ (l : List Call). IsOn bits reorder a l b (ys ++ []) p.far p.near) (sym (append-nil xs))
      (subst (λ (l : List Call). IsOn bits reorder a xs b l p.far p.near) (sym (append-nil ys)) h)
  back (Far d ∷ ss) p a xs b ys g near h =
      let q = happens p (Far d) in
      subst (λ (l : List Call). IsOn bits reorder a l b (ys ++ near_calls q ss) (goes ss q).far (goes ss q).near)
      (append_assoc xs (calls_in p.near d) (far_calls q ss))
      (back ss q a (xs ++ calls_in p.near d) b ys g.1 near (from_on a xs b ys p.far p.near d g.0 h))
  back (Near d ∷ ss) p a xs b ys g near h =
      let q = happens p (Near d) in
      subst (λ (l : List Call). IsOn bits reorder a (xs ++ far_calls q ss) b l (goes ss q).far (goes ss q).near)
      (append_assoc ys (calls_in p.far d) (near_calls q ss))
      (back ss q a xs b (ys ++ calls_in p.far d) g.1 near.1 (to_on a xs b ys p.far p.near d g.0 near.0 h))

  pub begins_so : (other_reorder : ℕ) (from to : State) → BeginsLife bits other_reorder from
      → BeginsLife bits reorder to → IsOn bits reorder from [] to [] (begins from) (begins to)
  begins_so other_reorder from to h k = record {
    from_is = refl;
    to_is = refl;
    bits_are = k.bits_are;
    stands =
        subst (λ (tx : Sender). Stands bits reorder [] [] tx to.rx [] [] []) (sym h.sends)
        (subst (λ (rx : Receiver). Stands bits reorder [] [] (idle_sender bits) rx [] [] []) (sym k.receives)
        (begun bits reorder));
  }

-- ---- a way of a life

record IsGoing (bits reorder : ℕ) (w : Way) : Type 0 where
  on : IsOn bits reorder w.from w.from_calls w.to w.to_calls w.from_end w.to_end
  idle : w.to_end.bearer.rx.joined.ready ≡ []

going : (bits reorder : ℕ) (w : Way) → BeginsLife bits reorder w.to
    → IsOn bits reorder w.from w.from_calls w.to w.to_calls w.from_end w.to_end → IsGoing bits reorder w
going bits reorder w k h = record {
  on = h;
  idle = ap (λ (b : State). b.rx.joined.ready) (sym h.to_is)
      ∙ all_idle w.to w.to_calls (ap (λ (r : Receiver). r.joined.ready) k.receives);
}

in_each : (Holds : ℕ → ℕ → Way → Type 0)
    → ((bits reorder : ℕ) (w : Way) → IsUmBits bits → IsGoing bits reorder w → Holds bits reorder w)
    → InEachDirection Holds
in_each Holds holds bits n f near far steps u h k g = (
  λ short. holds bits f (way_there near far steps) u
      (going bits f (way_there near far steps) k
      (there bits f u steps (um_pair_outset near far) near [] far [] g short (begins_so bits f u n near far h k))),
  λ short. holds bits n (way_back near far steps) u
      (going bits n (way_back near far steps) h
      (back bits n u steps (um_pair_outset near far) far [] near [] g short (begins_so bits n u f far near k h))),
)

-- ---- what that comes to

flow_so : (bits reorder : ℕ) (w : Way) → IsUmBits bits → IsGoing bits reorder w → IsFlow bits reorder w
flow_so bits reorder w u g =
    let h = g.on.stands in
    let width : ℕ = width_of bits in
    record {
      sent = subst (λ (f : Flow). AreSent f.made width (all_receiver_calls w.to w.to_calls) (fresh width reorder))
          (sym h.f_is) h.sent';
      sender_is = ap (λ (f : Flow). f.sender) h.f_is ∙ h.sender_is;
      given_is = ap (λ (f : Flow). f.offered) h.f_is ∙ h.given_is;
      receiver_is = ap (λ (x : World). x.state) h.w_is ∙ h.receiver_is;
      heard_is = ap (λ (x : World). x.gone) h.w_is ∙ h.heard_is;
    }

each_recent : (bits : ℕ) (made : List UmdPdu) (r : Receiver) (cs : List Copy) → r.window.width ≡ width_of bits
    → top_of r.window ≤ 2 * width_of bits + length made → AllByRecursion (IsCopyOf bits made) cs
    → AllByRecursion (IsRecent r) cs
each_recent bits made r [] wide top h = tt
each_recent bits made r (c ∷ cs) wide top h = let recent = h.0.recent in
    (omega (arith, wide, top, recent), each_recent bits made r cs wide top h.1)

recent_so : (bits reorder : ℕ) (w : Way) → IsUmBits bits → IsGoing bits reorder w → AreRecent bits reorder w
recent_so bits reorder w u g =
    let h = g.on.stands in
    let at = tops bits reorder (all_sender_steps w.from w.from_calls) (all_receiver_calls w.to w.to_calls)
    w.from_end.bearer.tx w.to_end.bearer.rx w.from_end.copies (way_given w) (way_heard w) u h in
    let top = h.top_is in
    record {
      recent =
          each_recent bits h.f.made w.to_end.bearer.rx w.from_end.copies h.width_is (omega (arith, at, top))
          h.copies_are;
    }

delivered_so : (bits reorder : ℕ) (w : Way) → IsUmBits bits → IsGoing bits reorder w → IsDelivered bits reorder w
delivered_so bits reorder w u g =
    let f = flow_so bits reorder w u g in
    let offered : List (List ℕ) = (sends bits w).offered in
    let x : World = receives bits reorder w in
    let d =
    (delivered bits reorder (all_sender_steps w.from w.from_calls) (all_receiver_calls w.to w.to_calls) u
    f.sent).at_end in
    let some : IsSubsequence (x.gone ++ all_joined x.state) offered =
    subst (λ (l : List (List ℕ)). IsSubsequence l offered) (sym d.chosen) (kept_some d.choice offered) in
    let at_end : IsSubsequence (way_heard w ++ all_joined w.to_end.bearer.rx) (way_given w) =
    subst (λ (l : List (List ℕ)). IsSubsequence (way_heard w ++ all_joined w.to_end.bearer.rx) l) f.given_is
    (subst (λ (l : List (List ℕ)). IsSubsequence (l ++ all_joined w.to_end.bearer.rx) offered) f.heard_is
    (subst (λ (r : Receiver). IsSubsequence (x.gone ++ all_joined r) offered) f.receiver_is some)) in
    record { some = front_some (way_heard w) (all_joined w.to_end.bearer.rx) (way_given w) at_end; at_end = at_end }

came_so : (bits reorder : ℕ) (w : Way) → IsUmBits bits → IsGoing bits reorder w → IsWhatCameInLife bits reorder w
came_so bits reorder w u g =
    let f = flow_so bits reorder w u g in
    let x : World = receives bits reorder w in
    let c = run_hands_up bits reorder (all_sender_steps w.from w.from_calls) (all_receiver_calls w.to w.to_calls) u
    f.sent in
    let idle : x.state.joined.ready ≡ [] = ap (λ (r : Receiver). r.joined.ready) f.receiver_is ∙ g.idle in
    record {
      order = subst (λ (l : List (List ℕ)). AreBetween 0 (places bits reorder w) (length l)) f.given_is c.order;
      heard_is =
          sym f.heard_is ∙ sym (append-nil x.gone) ∙ ap (λ (l : List (List ℕ)). x.gone ++ l) (sym idle) ∙ c.up
          ∙ ap (those (places bits reorder w)) f.given_is;
      last_order = subst (λ (l : List (List ℕ)). AreBetween 0 (last_places bits reorder w) (length l)) f.given_is
          c.last_order;
      last_is =
          ap (λ (l : List (List ℕ)). l ++ all_joined w.to_end.bearer.rx) (sym f.heard_is)
          ∙ ap (λ (r : Receiver). x.gone ++ all_joined r) (sym f.receiver_is) ∙ c.last
          ∙ ap (those (last_places bits reorder w)) f.given_is;
    }

-- ---- the laws

pub bearers_are_flows : InEachDirection IsFlow
bearers_are_flows = in_each IsFlow flow_so

pub none_lies_below : InEachDirection AreRecent
none_lies_below = in_each AreRecent recent_so

pub delivers_in_order : InEachDirection IsDelivered
delivers_in_order = in_each IsDelivered delivered_so

pub hands_up_what_came : InEachDirection IsWhatCameInLife
hands_up_what_came = in_each IsWhatCameInLife came_so
