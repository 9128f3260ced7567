-- A step further, both directions go on by what the step tells, and a life begins as both ends move.
use Rattle.std.proofs.Common.{◌≡◌, ℕ, Bool, true, false, ◌||◌, List, [], ◌∷◌, ◌++◌, map, length, take, Some}
use Rattle.std.proofs.Common.{append-nil, append_assoc, refl, ap, sym, subst, ◌∙◌, arith}
use Rattle.bearer.specs.Acknowledged.State.{State}
use Rattle.bearer.specs.declared.flow.Flow.{Flow}
use Rattle.bearer.specs.declared.flow.Flow.TheVariants.{Am}
use Rattle.bearer_types.specs.Sides.{other}
use Rattle.bearer_types.specs.declared.config.BearerConfig.{BearerConfig}
use Rattle.eps_sec.specs.declared.Keys.{Keys}
use Rattle.l2_node.specs.End.{End}
use Rattle.l2_num.specs.Least.{IsLeast}
use Rattle.l2_types.specs.declared.side.Side.{Side}
use Rattle.l2_types.specs.declared.side.Side.TheVariants.{Nb, Ue}
use Rattle.pdcp_rx.specs.State.{report}
use Rattle.pdcp_tx.specs.State.{State as Sending}
use Rattle.pdcp_tx.specs.declared.sender.Next.{Next}
use Rattle.law_bearer.specs.AmBearer.Calls.{IsOfData, IsIdle}
use Rattle.law_bearer.specs.AmBearer.Lives.{restarts, closed}
use Rattle.law_bearer.specs.AnyBearer.Calls.{Step as BearerStep, Restart, goes, run_bearer}
use Rattle.law_bearer.proofs.AmBearer.Lives.{restarts_are_deeds}
use Rattle.law_bearer.proofs.AnyBearer.Flows.{run_more}
use Rattle.law_words.specs.Arrivals.{AccountEntry, Account, no_account, account, renewed, has_come}
use Rattle.law_node.specs.Calls.{Call, run_end}
use Rattle.law_node.specs.Holding.{flow}
use Rattle.law_pdcp.specs.AmPair.Flow.{Flow as Pdcp}
use Rattle.law_deliver.specs.AmFlow.Air.{Air, outset}
use Rattle.law_deliver.specs.AmChannel.Arrival.{told_from, happens_in, happened}
use Rattle.law_deliver.specs.AmChannel.Delivery.{AmEndsBeginAlike, steps_over}
use Rattle.law_deliver.specs.AmChannel.Lives.{AirStep, Moves, AreLiving, lives, lives_on, end_at, calls_at, all_calls}
use Rattle.law_deliver.proofs.AmDelivery.Accounts.{account_then}
use Rattle.law_deliver.proofs.AmChannel.Ends.{ends_go_by_calls, steps_more}
use Rattle.law_given.specs.Joined.{pdcp, given_of, is_among, TellsCome, TellsBegun}
use Rattle.law_given.specs.Joined.{AreJoined, GoesOn, LifeBegins}
use Rattle.law_given.proofs.Joined.{reaches}
use Rattle.law_given.proofs.JoinedReports.{read_in}

-- ---- steps behind steps

pub lives_more : (xs ys : List AirStep) (a : Air) → lives (xs ++ ys) a ≡ lives ys (lives xs a)
lives_more [] ys a = refl
lives_more (x ∷ xs) ys a = lives_more xs ys (lives_on a x)

pub living_front : (l : ℕ) (xs ys : List AirStep) (a : Air) → AreLiving l a (xs ++ ys) → AreLiving l a xs
living_front l [] ys a g = tt
living_front l (x ∷ xs) ys a g = (g.0, living_front l xs ys (lives_on a x) g.1)

pub happened_more : (bits l : ℕ) (from : Side) (xs ys : List AirStep) (a : Air)
    → happened bits l from (xs ++ ys) a ≡ happened bits l from xs a ++ happened bits l from ys (lives xs a)
happened_more bits l from [] ys a = refl
happened_more bits l from (x ∷ xs) ys a =
    ap (λ (hs : List AccountEntry). happens_in bits l from a x ++ hs) (happened_more bits l from xs ys (lives_on a x))
    ∙ sym (append_assoc (happens_in bits l from a x) (happened bits l from xs (lives_on a x))
    (happened bits l from ys (lives xs (lives_on a x))))

pub calls_more : (side : Side) (xs ys : List AirStep) (a : Air)
    → all_calls side (xs ++ ys) a ≡ all_calls side xs a ++ all_calls side ys (lives xs a)
calls_more side [] ys a = refl
calls_more side (x ∷ xs) ys a =
    ap (λ (cs : List Call). calls_at side a x ++ cs) (calls_more side xs ys (lives_on a x))
    ∙ sym (append_assoc (calls_at side a x) (all_calls side xs (lives_on a x))
    (all_calls side ys (lives xs (lives_on a x))))

-- ---- one more

pub told_on : (c : BearerConfig) (l : ℕ) (from : Side) (xs : List AirStep) (x : AirStep) (a : Air)
    → told_from c l from (xs ++ x ∷ []) a
    ≡ account (happens_in c.pdcp_bits l from (lives xs a) x) (told_from c l from xs a)
told_on c l from xs x a =
    let one = happens_in c.pdcp_bits l from (lives xs a) x in
    ap (λ (hs : List AccountEntry). account hs no_account) (happened_more c.pdcp_bits l from xs (x ∷ []) a)
    ∙ (account_then (happened c.pdcp_bits l from xs a) (one ++ []) no_account
    ∙ ap (λ (hs : List AccountEntry). account hs (told_from c l from xs a)) (append-nil one))

module _ (l : ℕ) (c : BearerConfig) (keys : Keys) (nb ue : End) (h : AmEndsBeginAlike l c keys nb ue)
    (xs : List AirStep) (x : AirStep)
    (g : AreLiving l (outset nb ue) (xs ++ x ∷ [])) where
  abbrev at : Air
  at = lives xs (outset nb ue)

  bearer_on : (side : Side)
      → flow l (end_at side (lives (xs ++ x ∷ []) (outset nb ue)))
      ≡ run_bearer (steps_over l (calls_at side at x) (end_at side at)) (flow l (end_at side at))
  bearer_on side =
      let a = outset nb ue in
      let e = end_at side a in
      let cs = all_calls side xs a in
      let one = calls_at side at x in
      reaches l c keys nb ue h (xs ++ x ∷ []) g side
      ∙ ap (λ (ds : List Call). run_bearer (steps_over l ds e) (flow l e))
      (calls_more side xs (x ∷ []) a ∙ ap (λ (ds : List Call). cs ++ ds) (append-nil one))
      ∙ ap (λ (ss : List BearerStep). run_bearer ss (flow l e)) (steps_more l cs one e)
      ∙ run_more (flow l e) (steps_over l cs e) (steps_over l one (run_end cs e))
      ∙ ap (λ (y : End). run_bearer (steps_over l one y) (run_bearer (steps_over l cs e) (flow l e)))
      (sym (ends_go_by_calls nb ue side xs))
      ∙ ap (run_bearer (steps_over l one (end_at side at)))
      (sym (reaches l c keys nb ue h xs (living_front l xs (x ∷ []) a g) side))

pub joined_go_on : (l : ℕ) (c : BearerConfig) (keys : Keys) (nb ue : End) (from : Side) (steps : List AirStep)
    (x : AirStep)
    → AmEndsBeginAlike l c keys nb ue → AreLiving l (outset nb ue) (steps ++ x ∷ []) → GoesOn l c nb ue from steps x
joined_go_on l c keys nb ue from steps x h g = record {
  told_is = told_on c l from steps x (outset nb ue);
  bearer_is = bearer_on l c keys nb ue h steps x g from;
}

-- ---- both ends move

pub moved_told : (c : BearerConfig) (l : ℕ) (from : Side) (xs : List AirStep) (keys : Keys) (a : Air)
    → told_from c l from (xs ++ Moves keys ∷ []) a ≡ renewed (told_from c l from xs a)
moved_told c l Nb xs keys a = told_on c l Nb xs (Moves keys) a
moved_told c l Ue xs keys a = told_on c l Ue xs (Moves keys) a

moved_steps : (l : ℕ) (side : Side) (keys : Keys) (a : Air)
    → steps_over l (calls_at side a (Moves keys)) (end_at side a) ≡ Restart keys ∷ []
moved_steps l Nb keys a = refl
moved_steps l Ue keys a = refl

moved_bearer : (bits : ℕ) (f : Flow) (b d : State) (keys : Keys) → f ≡ goes (Am b) (Restart keys) → f ≡ Am d
    → IsOfData bits b → IsIdle b → d ≡ restarts b keys
moved_bearer bits f b d keys is now data' idle =
    let r = (restarts_are_deeds bits b keys data' idle).left in
    let same : Am d ≡ Am (restarts b keys) = sym now ∙ is ∙ r in cc

pub no_pdus : (ns : List Next) → map given_of ns ≡ [] → ns ≡ []
no_pdus [] q = refl
no_pdus (n ∷ ns) q = cc

no_more : (b : Bool) → (b || false) ≡ b
no_more true = refl
no_more false = refl

none_at : (ns : List Next) (n : ℕ) (b : Bool) (count : ℕ) → ns ≡ [] → n ≡ 0 → (b || is_among (take n ns) count) ≡ b
none_at ns n b count none z =
    ap (λ (xs : List Next). b || is_among (take n xs) count) none
    ∙ ap (λ (m : ℕ). b || is_among (take m []) count) z
    ∙ no_more b

pub least_as : (p q : ℕ → Bool) (from to : ℕ) → ((n : ℕ) → q n ≡ p n) → IsLeast p from to → IsLeast q from to
least_as p q from to same h = record {
  from = h.from;
  refused = same to ∙ h.refused;
  before = λ n a b. same n ∙ h.before n a b;
}

tells_as : (f : Pdcp) (p q : ℕ → Bool) (r : List ℕ) → ((n : ℕ) → q n ≡ p n) → TellsCome f p r → TellsCome f q r
tells_as f p q r same t = record {
  fms = t.fms;
  bitmap = t.bitmap;
  from = t.from;
  is = t.is;
  read = t.read;
  expected = least_as p q f.first t.from same t.expected;
  told = λ count le. t.told count le ∙ sym (same count);
}

pub lives_begin_joined : (l : ℕ) (c : BearerConfig) (first keys : Keys) (nb ue : End) (from : Side)
    (steps : List AirStep)
    → AmEndsBeginAlike l c first nb ue → AreLiving l (outset nb ue) (steps ++ Moves keys ∷ [])
    → (j : AreJoined l c nb ue from steps)
    (k : AreJoined l c nb ue from (steps ++ Moves keys ∷ []))
    → LifeBegins l c nb ue from steps keys j k
lives_begin_joined l c first keys nb ue from steps h g j k =
    let a = outset nb ue in
    let x : AirStep = Moves keys in
    let now = told_from c l from (steps ++ Moves keys ∷ []) a in
    let f = pdcp k.there in
    let b = pdcp k.back in
    let moved = λ (side : Side). bearer_on l c first nb ue h steps x g side
    ∙ ap (λ (ss : List BearerStep). run_bearer ss (flow l (end_at side (lives steps a))))
    (moved_steps l side keys (lives steps a)) in
    let one_is : k.one ≡ restarts j.one keys =
    moved_bearer c.pdcp_bits (flow l (end_at from (lives (steps ++ Moves keys ∷ []) a))) j.one k.one keys
    (moved from ∙ ap (λ (y : Flow). goes y (Restart keys)) j.one_is) k.one_is j.one_data j.one_idle in
    let two_is : k.two ≡ restarts j.two keys =
    moved_bearer c.pdcp_bits (flow l (end_at (other from) (lives (steps ++ Moves keys ∷ []) a))) j.two k.two keys
    (moved (other from) ∙ ap (λ (y : Flow). goes y (Restart keys)) j.two_is) k.two_is j.two_data j.two_idle in
    let owed : b.sender.owed ≡ Some (report (closed j.two)) =
    ap (λ (s : Sending). s.owed) (k.back_joins.sender_is ∙ ap (λ (y : State). y.pdcp.tx) two_is) in
    let report_is : f.report ≡ Some (report (closed j.two)) = k.there_reports.owed (report (closed j.two)) owed in
    let is = read_in c k.there k.there_is in
    let now_is : now ≡ renewed (told_from c l from steps a) = moved_told c l from steps keys a in
    let none : f.stream ≡ [] = no_pdus f.stream (k.there_told.stream_is ∙ ap (λ (y : Account). y.given) now_is) in
    let passed : f.passed ≡ 0 = (let n = ap (λ (ns : List Next). length ns) none in omega (arith, is.few, n)) in
    let t : TellsBegun f (report (closed j.two)) = is.told (report (closed j.two)) report_is in
    let come : (count : ℕ) → has_come now count ≡ now.ended count =
    λ count. subst (λ (y : Account). has_come y count ≡ y.ended count) (sym now_is)
    (no_more ((renewed (told_from c l from steps a)).ended count)) in
    record {
      one_is = one_is;
      two_is = two_is;
      stream_is = none;
      passed_is = passed;
      report_is = report_is;
      owed_is = owed;
      tells_ended = tells_as f t.begun now.ended (report (closed j.two))
          (λ count. sym (come count) ∙ sym (k.there_told.handed_is count) ∙ t.come count
          ∙ none_at f.stream f.passed (t.begun count) count none passed)
          t.tells_begun;
    }
