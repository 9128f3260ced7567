-- Steps of two ends that tell what records tell, and in which each is submitted so much: by no step, by one, and one
-- behind the other.
use Rattle.std.proofs.Common.{◌≡◌, ℕ, Bool, true, false, List, [], ◌∷◌, ◌++◌, append_assoc}
use Rattle.std.proofs.Common.{refl, ap, sym, subst, ◌∙◌}
use Rattle.air_record.specs.declared.record.Record.{Record}
use Rattle.l2_node.specs.End.{End}
use Rattle.l2_types.specs.declared.side.Side.{Side}
use Rattle.l2_types.specs.declared.side.Side.TheVariants.{Nb, Ue}
use Rattle.law_node.specs.Calls.{Call as EndCall}
use Rattle.law_node.specs.Calls.{after as after_call, run_end}
use Rattle.law_node.specs.Telling.{told_over}
use Rattle.promises.specs.Records.{events_of, sent_last}
use Rattle.law_run.proofs.AnyCalls.Going.{told_both, over_on}
use Rattle.law_deliver.specs.AmFlow.Air.{Station, Air}
use Rattle.law_words.specs.Arrivals.{AccountEntry, Renews}
use Rattle.law_deliver.specs.AmChannel.Arrival.{happens_in, happened}
use Rattle.promises.specs.Arrival.{entries_at, entries_in}
use Rattle.law_deliver.specs.AmChannel.Delivery.{submitted_in, was_submitted, SetNone}
use Rattle.law_deliver.specs.AmChannel.Lives.{AirStep, InLife, Moves, AreLiving, lives_on, lives, end_at}
use Rattle.law_deliver.specs.AmChannel.Lives.{calls_at, all_calls}
use Rattle.law_deliver.proofs.AmChannel.Ends.{goes_by_calls}
use Rattle.um_losses.specs.declared.cursor.Cursor.{Cursor}
use Rattle.um_losses.specs.declared.flow.Happening.{Happening}
use Rattle.um_losses.specs.declared.flow.Happening.TheVariants.{LifeRestarted}
use Rattle.law_deliver.specs.UmGaps.Whats.{whats_in, whats}
use Rattle.law_run.specs.TwoEnds.Along.{AreAlong}
use Rattle.law_run.specs.TwoEnds.Logs.{LogEntry, log_at, log_of, Flight, process_of, no_flight, last_in, flight_in}
use Rattle.law_run.specs.TwoEnds.Logs.{logged, LogAlone}
use Rattle.law_run.specs.TwoEnds.Staying.{AreInLife}
use Rattle.promises.specs.Flows.{looped_at}
use Rattle.law_run.proofs.TwoEnds.Along.{logged_more, along_more}

-- ---- the end of a side

abbrev pub station : Side → Air → Station
station Nb a = a.nb
station Ue a = a.ue

abbrev pub with_station : Side → Station → Air → Air
with_station Nb s a = record a { nb = s }
with_station Ue s a = record a { ue = s }

-- ---- steps, and then others

pub lives_more : (a : Air) (xs ys : List AirStep) → lives (xs ++ ys) a ≡ lives ys (lives xs a)
lives_more a [] ys = refl
lives_more a (x ∷ xs) ys = lives_more (lives_on a x) xs ys

pub living_more : (l : ℕ) (a : Air) (xs ys : List AirStep) → AreLiving l a xs → AreLiving l (lives xs a) ys
    → AreLiving l a (xs ++ ys)
living_more l a [] ys g h = h
living_more l a (x ∷ xs) ys g h = (g.0, living_more l (lives_on a x) xs ys g.1 h)

calls_more : (side : Side) (a : Air) (xs ys : List AirStep)
    → all_calls side (xs ++ ys) a ≡ all_calls side xs a ++ all_calls side ys (lives xs a)
calls_more side a [] ys = refl
calls_more side a (x ∷ xs) ys =
    ap (λ (cs : List EndCall). calls_at side a x ++ cs) (calls_more side (lives_on a x) xs ys)
    ∙ sym (append_assoc (calls_at side a x) (all_calls side xs (lives_on a x))
    (all_calls side ys (lives xs (lives_on a x))))

-- what an end tells in steps and then in others
over_more : (side : Side) (a : Air) (xs ys : List AirStep)
    → told_over (all_calls side (xs ++ ys) a) (end_at side a)
    ≡ told_over (all_calls side xs a) (end_at side a)
    ++ told_over (all_calls side ys (lives xs a)) (end_at side (lives xs a))
over_more side a xs ys =
    let e = end_at side a in
    let cs = all_calls side xs a in
    let ds = all_calls side ys (lives xs a) in
    ap (λ (all : List EndCall). told_over all e) (calls_more side a xs ys) ∙ over_on cs ds e
    ∙ ap (λ (x : End). told_over cs e ++ told_over ds x) (sym (goes_by_calls side xs a))

-- and what it is submitted
submitted_on : (n : ℕ) (cs ds : List EndCall) (e : End)
    → was_submitted n (cs ++ ds) e ≡ was_submitted n cs e ++ was_submitted n ds (run_end cs e)
submitted_on n [] ds e = refl
submitted_on n (c ∷ cs) ds e =
    ap (λ (x : List (List ℕ)). submitted_in n e c ++ x) (submitted_on n cs ds (after_call e c))
    ∙ sym (append_assoc (submitted_in n e c) (was_submitted n cs (after_call e c))
    (was_submitted n ds (run_end cs (after_call e c))))

submitted_more : (side : Side) (n : ℕ) (a : Air) (xs ys : List AirStep)
    → was_submitted n (all_calls side (xs ++ ys) a) (end_at side a)
    ≡ was_submitted n (all_calls side xs a) (end_at side a)
    ++ was_submitted n (all_calls side ys (lives xs a)) (end_at side (lives xs a))
submitted_more side n a xs ys =
    let e = end_at side a in
    let cs = all_calls side xs a in
    let ds = all_calls side ys (lives xs a) in
    ap (λ (all : List EndCall). was_submitted n all e) (calls_more side a xs ys) ∙ submitted_on n cs ds e
    ∙ ap (λ (x : End). was_submitted n cs e ++ was_submitted n ds x) (sym (goes_by_calls side xs a))

-- ---- steps that tell what records tell, in which each side is submitted so much

abbrev pub Tells : List Record → List AirStep → Air → Side → Type 0
Tells told steps a side = events_of side told ≡ told_over (all_calls side steps a) (end_at side a)

abbrev pub Submits : (Side → ℕ → List (List ℕ)) → List AirStep → Air → Side → Type 0
Submits given steps a side = (n : ℕ) → was_submitted n (all_calls side steps a) (end_at side a) ≡ given side n

-- no discard timer is set on the channel
abbrev pub Unset : ℕ → List AirStep → Air → Side → Type 0
Unset l steps a side = SetNone l (all_calls side steps a)

-- whether they may set one, whether both ends may move, and whether a line may hand in an SDU
pub record Marks : Type 0 where
  pub sets : Bool
  pub moves : Bool
  pub hands : Bool

abbrev pub calm : Marks
calm = record { sets = false; moves = false; hands = false }

abbrev pub setting : Bool → Marks
setting set = record { sets = set; moves = false; hands = false }

abbrev pub moving : Bool → Marks
moving set = record { sets = set; moves = true; hands = false }

abbrev pub handing : Marks
handing = record { sets = false; moves = false; hands = true }

-- what each side is submitted is what the test loop submits, where no line hands in an SDU
abbrev pub IsLooped : Marks → List Record → (Side → ℕ → List (List ℕ)) → Type 0
IsLooped set told given = set.hands ≡ false → (side : Side) (n : ℕ) → given side n ≡ looped_at side n told

in_life_more : (xs ys : List AirStep) → AreInLife xs → AreInLife ys → AreInLife (xs ++ ys)
in_life_more [] ys h k = k
in_life_more (InLife s ∷ xs) ys h k = in_life_more xs ys h k
in_life_more (Moves keys ∷ xs) ys h k = absurd h

-- what is known as records are read: nothing, of the block that was sent last its side, its octets and its process, at
-- which the records stand, or nothing and that a life ended before; or they aren't read
pub data Behind : Type 0 where
  Any : Behind
  Block' : Side → List ℕ → ℕ → Behind
  Renewed : Behind
  Unread : Behind

abbrev pub Fits : Behind → Flight → Type 0
Fits Any sent = Unit {0}
Fits (Block' side octets process) sent = (process_of side sent ≡ process) × (sent.octets ≡ octets)
Fits Renewed sent = Unit {0}
Fits Unread sent = ⊥

abbrev pub IsAt : Behind → Cursor → Type 0
IsAt Any p = Unit {0}
IsAt (Block' side octets process) p = p.process ≡ process
IsAt Renewed p = Unit {0}
IsAt Unread p = ⊥

abbrev pub ended : Behind → List AccountEntry
ended Any = []
ended (Block' side octets process) = []
ended Renewed = Renews ∷ []
ended Unread = []

abbrev pub first_whats : Behind → List Happening
first_whats Any = []
first_whats (Block' side octets process) = []
first_whats Renewed = LifeRestarted ∷ []
first_whats Unread = []

abbrev pub Reads : ℕ → Behind → List Record → List AirStep → Air → Type 0
Reads l c told steps a = (bits : ℕ) (from : Side) (sent : Flight) → Fits c sent
    → happened bits l from steps a ≡ ended c ++ entries_in bits l from sent.octets told

-- what steps are to an unacknowledged flow from each side, by the bits of its numbers
abbrev pub Whats : Type 0
Whats = ℕ → Side → List Happening

abbrev pub no_whats : Whats
no_whats bits from = []

-- where the marks say no; behind what is known
pub record GoesBehind (l : ℕ) (set : Marks) (c : Behind) (told : List Record) (given : Side → ℕ
    → List (List ℕ)) (ws : Whats) (a b : Air) : Type 0 where
  pub steps : List AirStep
  pub living : AreLiving l a steps
  pub told_is : (side : Side) → Tells told steps a side
  pub submitted_is : (side : Side) → Submits given steps a side
  pub sets_none : set.sets ≡ false → (side : Side) → Unset l steps a side
  pub stays : set.moves ≡ false → AreInLife steps
  pub reads : Reads l c told steps a
  pub logs : (sent : Flight) → Fits c sent → log_of steps a ≡ logged sent told
  pub along : set.hands ≡ false → (sent : Flight) → Fits c sent → AreAlong sent steps a told
  pub whats_are : (bits : ℕ) (from : Side) → whats from l bits steps a ≡ ws bits from
  pub air_is : lives steps a ≡ b

abbrev pub Goes : ℕ → Marks → List Record → (Side → ℕ → List (List ℕ)) → Whats → Air → Air → Type 0
Goes l set told given ws a b = GoesBehind l set Any told given ws a b

whats_more : (l bits : ℕ) (from : Side) (a : Air) (xs ys : List AirStep)
    → whats from l bits (xs ++ ys) a ≡ whats from l bits xs a ++ whats from l bits ys (lives xs a)
whats_more l bits from a [] ys = refl
whats_more l bits from a (x ∷ xs) ys =
    ap (λ (ws : List Happening). whats_in from l bits a x ++ ws) (whats_more l bits from (lives_on a x) xs ys)
    ∙ sym (append_assoc (whats_in from l bits a x) (whats from l bits xs (lives_on a x))
    (whats from l bits ys (lives xs (lives_on a x))))

unset_more : (l : ℕ) (cs ds : List EndCall) → SetNone l cs → SetNone l ds → SetNone l (cs ++ ds)
unset_more l [] ds p q = q
unset_more l (c ∷ cs) ds p q = (p.0, unset_more l cs ds p.1 q)

happened_more : (bits l : ℕ) (from : Side) (xs ys : List AirStep) (a : Air)
    → happened bits l from (xs ++ ys) a ≡ happened bits l from xs a ++ happened bits l from ys (lives xs a)
happened_more bits l from [] ys a = refl
happened_more bits l from (x ∷ xs) ys a =
    ap (λ (hs : List AccountEntry). happens_in bits l from a x ++ hs) (happened_more bits l from xs ys (lives_on a x))
    ∙ sym (append_assoc (happens_in bits l from a x) (happened bits l from xs (lives_on a x))
    (happened bits l from ys (lives xs (lives_on a x))))

pub tells_more : (bits l : ℕ) (from : Side) (sent : List ℕ) (f g : List Record)
    → entries_in bits l from sent (f ++ g) ≡ entries_in bits l from sent f ++ entries_in bits l from (last_in f sent) g
tells_more bits l from sent [] g = refl
tells_more bits l from sent (one ∷ f) g =
    ap (λ (hs : List AccountEntry). entries_at bits l from sent one ++ hs)
    (tells_more bits l from (sent_last one sent) f g)
    ∙ sym (append_assoc (entries_at bits l from sent one) (entries_in bits l from (sent_last one sent) f)
    (entries_in bits l from (last_in f (sent_last one sent)) g))

pub log_more : (xs ys : List AirStep) (a : Air) → log_of (xs ++ ys) a ≡ log_of xs a ++ log_of ys (lives xs a)
log_more [] ys a = refl
log_more (x ∷ xs) ys a =
    ap (λ (hs : List LogEntry). log_at a x ++ hs) (log_more xs ys (lives_on a x))
    ∙ sym (append_assoc (log_at a x) (log_of xs (lives_on a x)) (log_of ys (lives xs (lives_on a x))))

pub behind_then : (l : ℕ) (set : Marks) (c d : Behind) (f g : List Record) (x y : Side → ℕ
    → List (List ℕ)) {v w : Whats} (a b e : Air) → ended d ≡ []
    → ((sent : Flight) → Fits c sent → Fits d (flight_in f sent))
    → GoesBehind l set c f x v a b → GoesBehind l set d g y w b e
    → GoesBehind l set c (f ++ g) (λ side n. x side n ++ y side n) (λ bits from. v bits from ++ w bits from) a e
behind_then l set c d f g x y {v} {w} a b e none left p q =
    let ss = p.steps in
    let ts = q.steps in
    let z = lives ss a in
    record {
      steps = ss ++ ts;
      living = living_more l a ss ts p.living (subst (λ (w : Air). AreLiving l w ts) (sym p.air_is) q.living);
      told_is = λ side.
          let second = q.told_is side
          ∙ ap (λ (w : Air). told_over (all_calls side ts w) (end_at side w)) (sym p.air_is) in
          told_both side f g (told_over (all_calls side ss a) (end_at side a))
          (told_over (all_calls side ts z) (end_at side z)) (p.told_is side) second
          ∙ sym (over_more side a ss ts);
      submitted_is = λ side n.
          let second = ap (λ (w : Air). was_submitted n (all_calls side ts w) (end_at side w)) p.air_is
          ∙ q.submitted_is side n in
          submitted_more side n a ss ts
          ∙ ap (λ (s : List (List ℕ)). s ++ was_submitted n (all_calls side ts z) (end_at side z))
          (p.submitted_is side n)
          ∙ ap (λ (s : List (List ℕ)). x side n ++ s) second;
      sets_none = λ off side.
          let second = subst (λ (w : Air). SetNone l (all_calls side ts w)) (sym p.air_is) (q.sets_none off side) in
          subst (SetNone l) (sym (calls_more side a ss ts))
          (unset_more l (all_calls side ss a) (all_calls side ts z) (p.sets_none off side) second);
      stays = λ off. in_life_more ss ts (p.stays off) (q.stays off);
      reads = λ bits from sent fits.
          let one = entries_in bits l from sent.octets f in
          let two = entries_in bits l from (last_in f sent.octets) g in
          let second : happened bits l from ts z ≡ two =
          ap (λ (w : Air). happened bits l from ts w) p.air_is
          ∙ (q.reads bits from (flight_in f sent) (left sent fits) ∙ ap (λ (hs : List AccountEntry). hs ++ two) none)
          in
          happened_more bits l from ss ts a
          ∙ (ap (λ (hs : List AccountEntry). hs ++ happened bits l from ts z) (p.reads bits from sent fits)
          ∙ (ap (λ (hs : List AccountEntry). (ended c ++ one) ++ hs) second
          ∙ (append_assoc (ended c) one two
          ∙ ap (λ (hs : List AccountEntry). ended c ++ hs) (sym (tells_more bits l from sent.octets f g)))));
      logs = λ sent fits.
          let second : log_of ts z ≡ logged (flight_in f sent) g =
          ap (λ (w : Air). log_of ts w) p.air_is ∙ q.logs (flight_in f sent) (left sent fits) in
          log_more ss ts a
          ∙ (ap (λ (hs : List LogEntry). hs ++ log_of ts z) (p.logs sent fits)
          ∙ (ap (λ (hs : List LogEntry). logged sent f ++ hs) second ∙ sym (logged_more sent f g)));
      along = λ off sent fits.
          let second = q.along off (flight_in f sent) (left sent fits) in
          along_more sent ss ts a f g (p.along off sent fits)
          (subst (λ (w : Air). AreAlong (flight_in f sent) ts w g) (sym p.air_is) second);
      whats_are = λ bits from.
          let second = ap (λ (u : Air). whats from l bits ts u) p.air_is ∙ q.whats_are bits from in
          whats_more l bits from a ss ts
          ∙ ap (λ (ws : List Happening). ws ++ whats from l bits ts z) (p.whats_are bits from)
          ∙ ap (λ (ws : List Happening). v bits from ++ ws) second;
      air_is = lives_more a ss ts ∙ ap (lives ts) p.air_is ∙ q.air_is;
    }

-- what happens in the ones and then in the others
pub happens_then : (bits : ℕ) (from : Side) (l : ℕ) (set : Marks) (c d : Behind) (f g : List Record) (x y : Side → ℕ
    → List (List ℕ)) {v w : Whats} (a b e : Air) (none : ended d ≡ []) (left : (sent : Flight) → Fits c sent
    → Fits d (flight_in f sent))
    (p : GoesBehind l set c f x v a b) (q : GoesBehind l set d g y w b e)
    → happened bits l from (behind_then l set c d f g x y a b e none left p q).steps a
    ≡ happened bits l from p.steps a ++ happened bits l from q.steps b
unfolding behind_then
happens_then bits from l set c d f g x y {v} {w} a b e none left p q =
    happened_more bits l from p.steps q.steps a
    ∙ ap (λ (z : Air). happened bits l from p.steps a ++ happened bits l from q.steps z) p.air_is

pub logs_then : (l : ℕ) (set : Marks) (c d : Behind) (f g : List Record) (x y : Side → ℕ
    → List (List ℕ)) {v w : Whats} (a b e : Air) (none : ended d ≡ []) (left : (sent : Flight) → Fits c sent
    → Fits d (flight_in f sent))
    (p : GoesBehind l set c f x v a b) (q : GoesBehind l set d g y w b e)
    → log_of (behind_then l set c d f g x y a b e none left p q).steps a ≡ log_of p.steps a ++ log_of q.steps b
unfolding behind_then
logs_then l set c d f g x y {v} {w} a b e none left p q =
    log_more p.steps q.steps a ∙ ap (λ (z : Air). log_of p.steps a ++ log_of q.steps z) p.air_is

pub logged_both : (f g : List Record) → LogAlone g
    → logged no_flight (f ++ g) ≡ logged no_flight f ++ logged no_flight g
logged_both f g h =
    logged_more no_flight f g ∙ ap (λ (hs : List LogEntry). logged no_flight f ++ hs) (h (flight_in f no_flight))

pub goes_then : (l : ℕ) (set : Marks) (f g : List Record) (x y : Side → ℕ → List (List ℕ)) {v w : Whats} (a b c : Air)
    → Goes l set f x v a b → Goes l set g y w b c
    → Goes l set (f ++ g) (λ side n. x side n ++ y side n) (λ bits from. v bits from ++ w bits from) a c
goes_then l set f g x y {v} {w} a b c p q = behind_then l set Any Any f g x y a b c refl (λ sent fits. tt) p q

-- where nothing has to be known, it may be
unfoldable pub weaken : (l : ℕ) (set : Marks) (c : Behind) (told : List Record) (given : Side → ℕ
    → List (List ℕ)) {ws : Whats} (a b : Air) → ended c ≡ [] → Goes l set told given ws a b
    → GoesBehind l set c told given ws a b
weaken l set c told given {ws} a b open' p = record {
  steps = p.steps;
  living = p.living;
  told_is = p.told_is;
  submitted_is = p.submitted_is;
  sets_none = p.sets_none;
  stays = p.stays;
  reads = λ bits from sent fits. p.reads bits from sent tt
      ∙ sym (ap (λ (hs : List AccountEntry). hs ++ entries_in bits l from sent.octets told) open');
  logs = λ sent fits. p.logs sent tt;
  along = λ off sent fits. p.along off sent tt;
  whats_are = p.whats_are;
  air_is = p.air_is;
}

-- the same SDUs in another form
unfoldable pub goes_as : {c : Behind} (l : ℕ) (set : Marks) (told : List Record) (x y : Side → ℕ
    → List (List ℕ)) {ws : Whats} (a b : Air) → ((side : Side) (n : ℕ) → x side n ≡ y side n)
    → GoesBehind l set c told x ws a b → GoesBehind l set c told y ws a b
goes_as {c} l set told x y {ws} a b same p =
    record {
      steps = p.steps;
      living = p.living;
      told_is = p.told_is;
      submitted_is = λ side n. p.submitted_is side n ∙ same side n;
      sets_none = p.sets_none;
      stays = p.stays;
      reads = p.reads;
      logs = p.logs;
      along = p.along;
      whats_are = p.whats_are;
      air_is = p.air_is;
    }

-- the same air in another form
unfoldable pub goes_to : (l : ℕ) (set : Marks) (told : List Record) (given : Side → ℕ
    → List (List ℕ)) {ws : Whats} (a b e : Air) → b ≡ e → Goes l set told given ws a b → Goes l set told given ws a e
goes_to l set told given {ws} a b e same p =
    record {
      steps = p.steps;
      living = p.living;
      told_is = p.told_is;
      submitted_is = p.submitted_is;
      sets_none = p.sets_none;
      stays = p.stays;
      reads = p.reads;
      logs = p.logs;
      along = p.along;
      whats_are = p.whats_are;
      air_is = p.air_is ∙ same;
    }

abbrev pub none : Side → ℕ → List (List ℕ)
none side n = []

-- records that tell of nothing that goes by air
abbrev pub TellNoAir : List Record → Type 0
TellNoAir told = (bits l : ℕ) (from : Side) (sent : List ℕ) → entries_in bits l from sent told ≡ []

-- records that tell nothing of an end
unfoldable pub goes_none : (l : ℕ) (set : Marks) (c : Behind) (told : List Record) (a : Air) → ended c ≡ []
    → ((side : Side) → events_of side told ≡ []) → TellNoAir told → ((sent : Flight) → logged sent told ≡ [])
    → ((side : Side) (n : ℕ) → looped_at side n told ≡ []) → GoesBehind l set c told none no_whats a a
goes_none l set c told a open' untold unflown unlogged unlooped = record {
  steps = [];
  living = tt;
  told_is = untold;
  submitted_is = λ side n. refl;
  sets_none = λ off side. tt;
  stays = λ off. tt;
  reads =
      λ bits from sent fits. sym (ap (λ (hs : List AccountEntry). hs ++ entries_in bits l from sent.octets told) open'
      ∙ unflown bits l from sent.octets);
  logs = λ sent fits. sym (unlogged sent);
  along = λ off sent fits. (unlogged sent, unlooped);
  whats_are = λ bits from. refl;
  air_is = refl;
}
