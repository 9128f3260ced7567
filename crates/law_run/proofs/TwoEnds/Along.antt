-- Records that stand where steps of two ends are: of one step, and of some behind others.
use Rattle.std.proofs.Common.{◌≡◌, ℕ, List, [], ◌∷◌, ◌++◌, map, append_assoc, append-nil, refl, ap, sym, subst, ◌∙◌}
use Rattle.std.proofs.lemmas.List.{map-append}
use Rattle.std.proofs.lemmas.List.Elements.{filter-append}
use Rattle.std.specs.List.{filter}
use Rattle.air_record.specs.declared.record.Record.{Record}
use Rattle.l2_types.specs.declared.side.Side.{Side}
use Rattle.l2_types.specs.declared.side.Side.TheVariants.{Nb, Ue}
use Rattle.law_deliver.specs.AmChannel.Delivery.{was_submitted}
use Rattle.law_deliver.specs.AmChannel.Lives.{AirStep, lives_on, lives, end_at, calls_at}
use Rattle.law_deliver.specs.AmFlow.Air.{Air}
use Rattle.promises.specs.Flows.{looped_at}
use Rattle.promises.specs.Records.{is_looped, sdu_of}
use Rattle.law_run.specs.TwoEnds.Along.{TellsTogether, AreAlong}
use Rattle.law_run.specs.TwoEnds.Logs.{LogEntry, log_at, Flight, flight_behind, flight_in, logged_at, logged}
use Rattle.law_run.proofs.TwoEnds.Together.{tells_behind}

-- ---- what records tell, and others behind them

pub flight_more : (f g : List Record) (sent : Flight) → flight_in g (flight_in f sent) ≡ flight_in (f ++ g) sent
flight_more [] g sent = refl
flight_more (one ∷ f) g sent = flight_more f g (flight_behind one sent)

pub logged_more : (sent : Flight) (f g : List Record)
    → logged sent (f ++ g) ≡ logged sent f ++ logged (flight_in f sent) g
logged_more sent [] g = refl
logged_more sent (one ∷ f) g =
    ap (λ (hs : List LogEntry). logged_at sent one ++ hs) (logged_more (flight_behind one sent) f g)
    ∙ sym (append_assoc (logged_at sent one) (logged (flight_behind one sent) f)
    (logged (flight_in f (flight_behind one sent)) g))

pub looped_more : (side : Side) (n : ℕ) (f g : List Record)
    → looped_at side n f ++ looped_at side n g ≡ looped_at side n (f ++ g)
looped_more Nb n f g = refl
looped_more Ue n f g =
    sym (ap (map sdu_of) (filter-append (is_looped n) f g)
    ∙ map-append sdu_of (filter (is_looped n) f) (filter (is_looped n) g))

pub nothing_looped : (side : Side) (n : ℕ) → looped_at side n [] ≡ []
nothing_looped Nb n = refl
nothing_looped Ue n = refl

-- records that tell of neither, before others
module _ (sent : Flight) (f : List Record) (silent : logged sent f ≡ [])
    (unlooped : (side : Side) (n : ℕ) → looped_at side n f ≡ []) where
  logs_behind : (g : List Record) → logged sent (f ++ g) ≡ logged (flight_in f sent) g
  logs_behind g =
      logged_more sent f g ∙ ap (λ (hs : List LogEntry). hs ++ logged (flight_in f sent) g) silent

  loops_behind : (g : List Record) (side : Side) (n : ℕ) → looped_at side n (f ++ g) ≡ looped_at side n g
  loops_behind g side n =
      sym (looped_more side n f g) ∙ ap (λ (xs : List (List ℕ)). xs ++ looped_at side n g) (unlooped side n)

  along_behind : (xs : List AirStep) (a : Air) (g : List Record) → AreAlong (flight_in f sent) xs a g
      → AreAlong sent xs a (f ++ g)
  along_behind [] a g h =
      (logs_behind g ∙ h.0, λ side n. loops_behind g side n ∙ h.1 side n)
  along_behind (x ∷ xs) a g h = record {
    now = f ++ h.now;
    later = h.later;
    are = ap (λ (told : List Record). f ++ told) h.are ∙ sym (append_assoc f h.now h.later);
    logs = logs_behind h.now ∙ h.logs;
    looped = λ side n. loops_behind h.now side n ∙ h.looped side n;
    tells = tells_behind f x a h.now h.tells;
    others = subst (λ (s : Flight). AreAlong s xs (lives_on a x) h.later) (flight_more f h.now sent) h.others;
  }

-- ---- steps, and then others

pub along_more : (sent : Flight) (xs ys : List AirStep) (a : Air) (f g : List Record) → AreAlong sent xs a f
    → AreAlong (flight_in f sent) ys (lives xs a) g → AreAlong sent (xs ++ ys) a (f ++ g)
along_more sent [] ys a f g h k = along_behind sent f h.0 h.1 ys a g k
along_more sent (x ∷ xs) ys a f g h k =
    let s = flight_in h.now sent in
    let same : flight_in f sent ≡ flight_in h.later s =
    ap (λ (told : List Record). flight_in told sent) h.are ∙ sym (flight_more h.now h.later sent) in
    record {
      now = h.now;
      later = h.later ++ g;
      are = ap (λ (told : List Record). told ++ g) h.are ∙ append_assoc h.now h.later g;
      logs = h.logs;
      looped = h.looped;
      tells = h.tells;
      others = along_more s xs ys (lives_on a x) h.later g h.others
          (subst (λ (t : Flight). AreAlong t ys (lives (x ∷ xs) a) g) same k);
    }

-- ---- one step

abbrev pub LoopsIn : List Record → AirStep → Air → Side → Type 0
LoopsIn told x a side = (n : ℕ) → looped_at side n told ≡ was_submitted n (calls_at side a x) (end_at side a)

pub along_one : (sent : Flight) (x : AirStep) (a : Air) (told : List Record) → logged sent told ≡ log_at a x
    → ((side : Side) → LoopsIn told x a side) → TellsTogether x a told → AreAlong sent (x ∷ []) a told
along_one sent x a told logs looped tells = record {
  now = told;
  later = [];
  are = sym (append-nil told);
  logs = logs;
  looped = looped;
  tells = tells;
  others = (refl, nothing_looped);
}
