-- Some of a script's lines have their events.
use Rattle.std.proofs.Common.{◌≡◌, ℕ, ◌+◌, ◌≤◌, ◌==◌, ◌||◌, nat_lt, Bool, true, false, List, [], ◌∷◌, ◌++◌}
use Rattle.std.proofs.Common.{Option, Some, None, Result, Ok, Err, refl, ap, sym, ◌∙◌, arith}
use Rattle.std.specs.Prelude.{option_map, option_to_list, filter, is_some, if◌then◌else◌}
use Rattle.std.specs.List.{list_any}
use Rattle.std.proofs.lemmas.Bool.Decides.{nat_tests}
use Rattle.mte_script.specs.declared.event.Event.{Event}
use Rattle.mte_script.specs.declared.error.ScriptFault.{ScriptFault}
use Rattle.mte_script.specs.declared.error.ScriptFault.TheVariants.{TooManyEvents}
use Rattle.mte_script.specs.Scripts.{after_event, event_of_line, readings, events_of, Parsed, pieces_at, onto_first, lines_of, script_events}
use Rattle.mte_laws.specs.ScriptLines.{chosen, event_lines, script_of, LinesMayBeLeftOut}
use Rattle.mte_sched.proofs.EachLemmas.{or_left, or_right}

-- ---- lines of lines

abbrev has_end : List ℕ → Bool
has_end l = list_any (λ b. b == 10) l

-- No line has an end of a line in it.
abbrev Unbroken : List (List ℕ) → Type 0
Unbroken [] = Unit {0}
Unbroken (l ∷ ls) = (has_end l ≡ false) × Unbroken ls

piece_case : (t : Bool) (b : ℕ) (ps : List (List ℕ)) → (b == 10) ≡ t → Unbroken ps → Unbroken (if t then [] ∷ ps else onto_first b ps)
piece_case true b ps e u = (refl, u)
piece_case false b [] e u = (rw e refl, tt)
piece_case false b (p ∷ ps) e u = (rw e u.0, u.1)

pieces_unbroken : (s : List ℕ) → Unbroken (pieces_at 10 s)
unfolding pieces_at
pieces_unbroken [] = (refl, tt)
pieces_unbroken (b ∷ more) = piece_case (b == 10) b (pieces_at 10 more) refl (pieces_unbroken more)

filter_case : (t : Bool) (l : List ℕ) (ls : List (List ℕ)) → has_end l ≡ false → Unbroken ls → Unbroken (if t then l ∷ ls else ls)
filter_case true l ls e u = (e, u)
filter_case false l ls e u = u

filter_unbroken : (p : List ℕ → Bool) (ls : List (List ℕ)) → Unbroken ls → Unbroken (filter p ls)
filter_unbroken p [] u = tt
filter_unbroken p (l ∷ ls) u = filter_case (p l) l (filter p ls) u.0 (filter_unbroken p ls u.1)

chosen_unbroken : (mask : List Bool) (ls : List (List ℕ)) → Unbroken ls → Unbroken (chosen mask ls)
chosen_unbroken mask [] u = tt
chosen_unbroken [] (l ∷ ls) u = tt
chosen_unbroken (true ∷ mask) (l ∷ ls) u = (u.0, chosen_unbroken mask ls u.1)
chosen_unbroken (false ∷ mask) (l ∷ ls) u = chosen_unbroken mask ls u.1

first_line : (l rest : List ℕ) → has_end l ≡ false → pieces_at 10 ((l ++ 10 ∷ []) ++ rest) ≡ l ∷ pieces_at 10 rest
unfolding pieces_at
first_line [] rest h = refl
first_line (b ∷ l) rest h =
    let e : (b == 10) ≡ false = or_left (b == 10) (has_end l) h in
    rw (e, first_line l rest (or_right (b == 10) (has_end l) h)) refl

-- A script of lines has those, and an empty one.
lines_again : (ls : List (List ℕ)) → Unbroken ls → lines_of (script_of ls) ≡ ls ++ [] ∷ []
unfolding pieces_at
lines_again [] u = refl
lines_again (l ∷ ls) u = first_line l (script_of ls) u.0 ∙ ap (λ m. l ∷ m) (lines_again ls u.1)

readings_end : (files n : ℕ) (ls : List (List ℕ)) → readings files n (ls ++ [] ∷ []) ≡ readings files n ls
unfolding readings event_of_line pieces_at
readings_end files n [] = refl
readings_end files n (l ∷ ls) = ap (λ more. option_to_list (option_map (λ r. (n, r)) (event_of_line files l)) ++ more) (readings_end files (n + 1) ls)

-- ---- events of lines

ok_same : {A E : Type 0} (x y : A) → (let r : Result A E = Ok x in r) ≡ Ok y → x ≡ y
ok_same x y h = cc

-- An event that was read, and those after it.
record WasRead (b : Bool) (p : Parsed) (d : Event) (events : List Event) : Type 0 where
  room : b ≡ true
  later : List Event
  rest : p ≡ Ok later
  whole : events ≡ d ∷ later

was_read : (b : Bool) (p : Parsed) (d : Event) (events : List Event) (n : ℕ) → (if b then after_event d p else Err (n, TooManyEvents)) ≡ Ok events → WasRead b p d events
was_read false p d events n h = absurd cc
was_read true (Err f) d events n h = absurd cc
was_read true (Ok es) d events n h = record { room = refl; later = es; rest = refl; whole = sym (ok_same (d ∷ es) events h) }

fewer : (j k : ℕ) → j ≤ k → nat_lt k 10000 ≡ true → nat_lt j 10000 ≡ true
fewer j k le h = grind (arith, nat_tests)

module _ (files : ℕ) where
  abbrev with_event : List (List ℕ) → List (List ℕ)
  with_event lines = filter (λ line. is_some (event_of_line files line)) lines

  -- Whatever lines are left out, and wherever the others stand.
  abbrev MayBeLeftOut : List (List ℕ) → Type 0
  MayBeLeftOut lines = (mask : List Bool) (n m k j : ℕ) (events : List Event) → j ≤ k → events_of k (readings files n lines) ≡ Ok events
      → events_of j (readings files m (chosen mask (with_event lines))) ≡ Ok (chosen mask events)

  mask_case : (mask : List Bool) (line : List ℕ) (more : List (List ℕ)) (d : Event) (es : List Event) (n m k j : ℕ) → j ≤ k → nat_lt k 10000 ≡ true → event_of_line files line ≡ Some (Ok d)
      → events_of (k + 1) (readings files n more) ≡ Ok es → MayBeLeftOut more
      → events_of j (readings files m (chosen mask (line ∷ with_event more))) ≡ Ok (chosen mask (d ∷ es))
  unfolding readings events_of
  mask_case [] line more d es n m k j le room e h rest = refl
  mask_case (false ∷ mask) line more d es n m k j le room e h rest = rest mask n m (k + 1) j es (omega arith) h
  mask_case (true ∷ mask) line more d es n m k j le room e h rest =
      let room_too : nat_lt j 10000 ≡ true = fewer j k le room in
      let later = rest mask n (m + 1) (k + 1) (j + 1) es (omega arith) h in
      rw (e, room_too, later) refl

  line_case : (o : Option (Result Event ScriptFault)) (line : List ℕ) (more : List (List ℕ)) (mask : List Bool) (n m k j : ℕ) (events : List Event) → event_of_line files line ≡ o → j ≤ k
      → events_of k (option_to_list (option_map (λ r. (n, r)) o) ++ readings files (n + 1) more) ≡ Ok events → MayBeLeftOut more
      → events_of j (readings files m (chosen mask (if is_some o then line ∷ with_event more else with_event more))) ≡ Ok (chosen mask events)
  unfolding events_of
  line_case None line more mask n m k j events e le h rest = rest mask (n + 1) m k j events le h
  line_case (Some (Err f)) line more mask n m k j events e le h rest = absurd cc
  line_case (Some (Ok d)) line more mask n m k j events e le h rest =
      let a = was_read (nat_lt k 10000) (events_of (k + 1) (readings files (n + 1) more)) d events n h in
      rw a.whole (mask_case mask line more d a.later (n + 1) m k j le a.room e a.rest rest)

  may_be_left_out : (lines : List (List ℕ)) → MayBeLeftOut lines
  unfolding readings events_of
  may_be_left_out [] mask n m k j events le h = rw (← ok_same [] events h) refl
  may_be_left_out (line ∷ more) mask n m k j events le h = line_case (event_of_line files line) line more mask n m k j events refl le h (may_be_left_out more)

pub lines_may_be_left_out : LinesMayBeLeftOut
unfolding script_events
lines_may_be_left_out files script events mask h =
    let some = chosen mask (event_lines files script) in
    let unbroken = chosen_unbroken mask (event_lines files script) (filter_unbroken (λ line. is_some (event_of_line files line)) (lines_of script) (pieces_unbroken script)) in
    ap (λ ls. events_of 0 (readings files 1 ls)) (lines_again some unbroken)
    ∙ ap (events_of 0) (readings_end files 1 some)
    ∙ may_be_left_out files (lines_of script) mask 1 1 0 0 events (omega arith) h
