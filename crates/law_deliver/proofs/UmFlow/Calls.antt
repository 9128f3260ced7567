-- The bearer at each end is what its own calls make of it.
use Rattle.std.proofs.Common.{◌≡◌, ℕ, List, [], ◌∷◌, ◌++◌, Option, Some, None, slice_get, append_assoc, refl, ap, sym}
use Rattle.std.proofs.Common.{◌∙◌}
use Rattle.bearer.specs.declared.flow.Flow.{Flow}
use Rattle.bearer.specs.declared.flow.Flow.TheVariants.{Um}
use Rattle.bearer.specs.Unacknowledged.State.{State}
use Rattle.law_bearer.specs.AnyBearer.Calls.{Call, after_all, ends}
use Rattle.law_bearer.specs.AnyBearer.Stream.{takes, pdus_of, stream}
use Rattle.law_rlc.specs.AmPair.Flow.{Copy}
use Rattle.law_deliver.specs.UmFlow.Pair.{BearerEnd, Pair, Deed, Calls, Comes, Goes, Step, Near, Far, called, comes}
use Rattle.law_deliver.specs.UmFlow.Pair.{does, happens, goes, um_pair_outset}
use Rattle.law_deliver.specs.UmFlow.Calls.{arrives, calls_in, near_calls_in, far_calls_in, near_calls, far_calls}
use Rattle.law_deliver.specs.UmFlow.Calls.{AreTheirCalls}
use Rattle.law_deliver.specs.UmFlow.Handing.{hands, handed, all_called}
use Rattle.law_deliver.specs.UmFlow.Runs.{sender_steps, all_sender_steps, receiver_calls, all_receiver_calls}
use Rattle.law_deliver.proofs.UmFlow.Sending.{is_called}

-- ---- calls one behind the other

pub all_are_called : (b : State) (cs : List Call) → after_all (Um b) cs ≡ Um (all_called b cs)
all_are_called b [] = refl
all_are_called b (c ∷ cs) = ap (λ (f : Flow). after_all f cs) (is_called b c) ∙ all_are_called (called b c) cs

pub called_then : (b : State) (xs ys : List Call) → all_called b (xs ++ ys) ≡ all_called (all_called b xs) ys
called_then b [] ys = refl
called_then b (x ∷ xs) ys = called_then (called b x) xs ys

pub handed_then : (b : State) (xs ys : List Call) → handed b (xs ++ ys) ≡ handed b xs ++ handed (all_called b xs) ys
handed_then b [] ys = refl
handed_then b (x ∷ xs) ys = ap (λ l. hands b x ++ l) (handed_then (called b x) xs ys)
    ∙ sym (append_assoc (hands b x) (handed (called b x) xs) (handed (all_called (called b x) xs) ys))

pub steps_then : (b : State) (xs ys : List Call)
    → all_sender_steps b (xs ++ ys) ≡ all_sender_steps b xs ++ all_sender_steps (all_called b xs) ys
steps_then b [] ys = refl
steps_then b (x ∷ xs) ys = ap (λ l. sender_steps b x ++ l) (steps_then (called b x) xs ys)
    ∙ sym (append_assoc (sender_steps b x) (all_sender_steps (called b x) xs)
    (all_sender_steps (all_called (called b x) xs) ys))

pub receives_then : (b : State) (xs ys : List Call)
    → all_receiver_calls b (xs ++ ys) ≡ all_receiver_calls b xs ++ all_receiver_calls (all_called b xs) ys
receives_then b [] ys = refl
receives_then b (x ∷ xs) ys =
    ap (λ l. receiver_calls b x ++ l) (receives_then (called b x) xs ys)
    ∙ sym (append_assoc (receiver_calls b x) (all_receiver_calls (called b x) xs)
    (all_receiver_calls (all_called (called b x) xs) ys))

abbrev pub given_in : State → Call → List (List ℕ)
given_in b c = pdus_of (ends (Um b)) (takes (Um b) c)

pub stream_then : (b : State) (xs ys : List Call)
    → stream (Um b) (xs ++ ys) ≡ stream (Um b) xs ++ stream (Um (all_called b xs)) ys
stream_then b [] ys = refl
stream_then b (x ∷ xs) ys =
    ap (λ (f : Flow). given_in b x ++ stream f (xs ++ ys)) (is_called b x)
    ∙ ap (λ l. given_in b x ++ l) (stream_then (called b x) xs ys)
    ∙ sym (append_assoc (given_in b x) (stream (Um (called b x)) xs) (stream (Um (all_called (called b x) xs)) ys))
    ∙ ap (λ (f : Flow). (given_in b x ++ stream f xs) ++ stream (Um (all_called (called b x) xs)) ys)
    (sym (is_called b x))

-- ---- a deed

copy_is : (e : BearerEnd) (o : Option Copy) → all_called e.bearer (arrives o) ≡ (comes e o).bearer
copy_is e None = refl
copy_is e (Some c) = refl

pub deed_is : (other e : BearerEnd) (d : Deed) → all_called e.bearer (calls_in other d) ≡ (does other e d).bearer
deed_is other e (Calls c) = refl
deed_is other e (Comes k) = copy_is e (slice_get other.copies k)
deed_is other e (Goes k) = refl

-- ---- any steps

near_is : (steps : List Step) (p : Pair) → all_called p.near.bearer (near_calls p steps) ≡ (goes steps p).near.bearer
near_is [] p = refl
near_is (Near d ∷ ss) p =
    called_then p.near.bearer (calls_in p.far d) (near_calls (happens p (Near d)) ss)
    ∙ ap (λ (b : State). all_called b (near_calls (happens p (Near d)) ss)) (deed_is p.far p.near d)
    ∙ near_is ss (happens p (Near d))
near_is (Far d ∷ ss) p = near_is ss (happens p (Far d))

far_is : (steps : List Step) (p : Pair) → all_called p.far.bearer (far_calls p steps) ≡ (goes steps p).far.bearer
far_is [] p = refl
far_is (Near d ∷ ss) p = far_is ss (happens p (Near d))
far_is (Far d ∷ ss) p =
    called_then p.far.bearer (calls_in p.near d) (far_calls (happens p (Far d)) ss)
    ∙ ap (λ (b : State). all_called b (far_calls (happens p (Far d)) ss)) (deed_is p.near p.far d)
    ∙ far_is ss (happens p (Far d))

-- in further steps come further calls

pub near_then : (xs ys : List Step) (p : Pair) → near_calls p (xs ++ ys) ≡ near_calls p xs ++ near_calls (goes xs p) ys
near_then [] ys p = refl
near_then (x ∷ xs) ys p = ap (λ l. near_calls_in p x ++ l) (near_then xs ys (happens p x))
    ∙ sym (append_assoc (near_calls_in p x) (near_calls (happens p x) xs) (near_calls (goes (x ∷ xs) p) ys))

pub far_then : (xs ys : List Step) (p : Pair) → far_calls p (xs ++ ys) ≡ far_calls p xs ++ far_calls (goes xs p) ys
far_then [] ys p = refl
far_then (x ∷ xs) ys p = ap (λ l. far_calls_in p x ++ l) (far_then xs ys (happens p x))
    ∙ sym (append_assoc (far_calls_in p x) (far_calls (happens p x) xs) (far_calls (goes (x ∷ xs) p) ys))

pub ends_are_their_calls : (near far : State) (steps : List Step)
    → AreTheirCalls near far (um_pair_outset near far) steps
ends_are_their_calls near far steps = record {
  near_is = all_are_called near (near_calls (um_pair_outset near far) steps)
      ∙ ap (λ (b : State). Um b) (near_is steps (um_pair_outset near far));
  far_is = all_are_called far (far_calls (um_pair_outset near far) steps)
      ∙ ap (λ (b : State). Um b) (far_is steps (um_pair_outset near far));
}
