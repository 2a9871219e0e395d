-- Texts cut at separators, and numbers read digit by digit.
use Rattle.std.proofs.Common.{◌≡◌, ℕ, suc, ◌+◌, ◌-◌, ◌*◌, ◌^◌, ◌<◌, ◌≤◌, ◌==◌, ◌&&◌, Bool}
use Rattle.std.proofs.Common.{true, false, List, [], ◌∷◌, ◌++◌, length, take, drop, get_or, Option}
use Rattle.std.proofs.Common.{Some, None, Result, Ok, Err, nat_lt, append_assoc}
use Rattle.std.specs.Prelude.{option_map, option_to_list, if◌then◌else◌}
use Rattle.std.proofs.Common.{refl, ap, sym, ◌∙◌, arith, add-one, length-drop, inl, inr}
use Rattle.std.specs.List.{list_all}
use Rattle.std.proofs.lemmas.List.{drop_more, nil_from_length, take_all, append-nil}
use Rattle.std.proofs.lemmas.List.{length-take}
use Rattle.std.proofs.Math.Nat.{pow-suc}
use Rattle.std.proofs.lemmas.Bool.{le-leb, lt-ltb, le-ltb, cases_lt, cond-true, cond-false}
use Rattle.mte_script.specs.declared.event.Event.{Event}
use Rattle.mte_script.specs.declared.error.ScriptFault.{ScriptFault}
use Rattle.mte_script.specs.declared.error.ScriptFault.TheVariants.{Syntax, TooManyEvents}
use Rattle.mte_script.specs.declared.error.ScriptError.{ScriptError}
use Rattle.common.specs.declared.obstacle.Obstacle.{Obstacle}
use Rattle.common.specs.declared.obstacle.Obstacle.TheVariants.{OutOfMemory, Refused}
use Rattle.common.specs.Obstacles.{IfRefused}
use Rattle.mte_script.specs.Faults.{IsLineFault, IsFirstFault}
use Rattle.mte_script.specs.Scripts.{after_event, event_of_line, readings, events_of, Parsed}
use Rattle.mte_script.specs.Scripts.{words_of, digits_value, decimal_of, is_digit}
use Rattle.mte_script.specs.Scripts.{event_by, event_of_words, starts_comment}

event_by-many : (files : ℕ) (words : List (List ℕ)) → 14 ≤ length words → event_by files words ≡ Err Syntax
unfolding event_by
event_by-many files words h =
    let two : (length words == 2) ≡ false = grind arith in
    let three : (length words == 3) ≡ false = grind arith in
    let twelve : (length words == 12) ≡ false = grind arith in
    let thirteen : (length words == 13) ≡ false = grind arith in
    rw (two, three, twelve, thirteen) refl

event_by-first : (files : ℕ) (words : List (List ℕ)) → event_by files (take 14 words) ≡ event_by files words
event_by-first files words = elim (cases_lt 14 (length words)) [
  | inl many ↦ event_by-many files (take 14 words) (simp length-take (omega arith)) ∙ sym (event_by-many files words (omega arith))
  | inr few ↦ ap (event_by files) (take_all 14 words few)
]

-- The words that are read say what a line is.
pub event_of-first : (files : ℕ) (words : List (List ℕ)) → event_of_words files (take 14 words) ≡ event_of_words files words
event_of-first files [] = refl
event_of-first files (word ∷ more) = ap (λ e. Some e) (event_by-first files (word ∷ more))

words_event : (files : ℕ) (ws : List (List ℕ)) → 0 < length ws → event_of_words files ws ≡ Some (event_by files ws)
words_event files [] some = absurd (omega (arith, some))
words_event files (word ∷ more) some = refl

no_words : (ws : List (List ℕ)) → take 14 ws ≡ [] → ws ≡ []
no_words [] none = refl
no_words (word ∷ more) none = cc

-- A line without a word has no event, and neither has a comment.
pub line_empty : (files : ℕ) (line : List ℕ) (t : Bool) → starts_comment line ≡ t → take 14 (words_of line) ≡ [] → None ≡ event_of_line files line
unfolding event_of_line
line_empty files line true e none = sym (cond-true _ _ _ e)
line_empty files line false e none = sym (cond-false _ _ _ e ∙ ap (event_of_words files) (no_words (words_of line) none))

pub line_comment : (files : ℕ) (line : List ℕ) → starts_comment line ≡ true → None ≡ event_of_line files line
unfolding event_of_line
line_comment files line e = sym (cond-true _ _ _ e)

-- the event of a line whose first words were read
pub line_event : (files : ℕ) (line : List ℕ) (ws : List (List ℕ)) (r : Result Event ScriptFault) → starts_comment line ≡ false → ws ≡ take 14 (words_of line) → 0 < length ws
    → r ≡ event_by files ws → event_of_line files line ≡ Some r
unfolding event_of_line
line_event files line ws r other first some is =
    cond-false _ _ _ other
    ∙ sym (event_of-first files (words_of line))
    ∙ sym (ap (event_of_words files) first)
    ∙ words_event files ws some
    ∙ ap (λ e. Some e) (sym is)

pub ring_step : (v x p r w : ℕ) → v * (p * 10) + (x * p + r) ≡ w → (v * 10 + x) * p + r ≡ w
ring_step v x p r w h = grind arith

-- One more digit of a number.
pub value_step : (word : List ℕ) (i d value : ℕ) → i < length word
    → value * 10 ^ (length word - i) + digits_value (drop i word) ≡ digits_value word
    → (value * 10 + (get_or word i d - 48)) * 10 ^ (length word - (i + 1)) + digits_value (drop (i + 1) word) ≡ digits_value word
unfolding digits_value
value_step word i d value below h =
    let split = drop_more word i d below in
    let rest : length (drop (i + 1) word) ≡ length word - (i + 1) = length-drop (i + 1) word in
    let one : length word - i ≡ suc (length word - (i + 1)) = omega arith in
    let k = rw (split, rest, one, pow-suc 10 (length word - (i + 1))) at h in
    ring_step value (get_or word i d - 48) (10 ^ (length word - (i + 1))) (digits_value (drop (i + 1) word)) (digits_value word) k

pub digits_step : (word : List ℕ) (i d : ℕ) (all : Bool) → i < length word → 48 ≤ get_or word i d → get_or word i d ≤ 57
    → list_all is_digit (drop i word) ≡ all → list_all is_digit (drop (i + 1) word) ≡ all
digits_step word i d all below least most h =
    let split = rw (drop_more word i d below) at h in
    let first : is_digit (get_or word i d) ≡ true = rw (le-leb 48 (get_or word i d) least, le-leb (get_or word i d) 57 most) refl in
    rw first at split

pub both_true : (a b : Bool) → (a && b) ≡ true → (a ≡ true) × (b ≡ true)
both_true true b h = (refl, h)
both_true false b h = cc

pub below_step : (value i x : ℕ) → value < 10 ^ i → x ≤ 9 → value * 10 + x < 10 ^ (i + 1)
below_step value i x below small = rw (add-one, pow-suc 10 i) (omega arith)

pub value_end : (word : List ℕ) (i value : ℕ) → length word ≤ i
    → value * 10 ^ (length word - i) + digits_value (drop i word) ≡ digits_value word → value ≡ digits_value word
unfolding digits_value
value_end word i value over h =
    let none : drop i word ≡ [] = nil_from_length (drop i word) (simp length-drop (omega arith)) in
    let left : length word - i ≡ 0 = omega arith in
    let k = rw (none, left) at h in
    omega arith

-- The number of a word that is read whole.
pub decimal_end : (word : List ℕ) (i value : ℕ) → 0 < length word → length word ≤ 10 → length word ≤ i
    → value * 10 ^ (length word - i) + digits_value (drop i word) ≡ digits_value word
    → list_all is_digit (drop i word) ≡ list_all is_digit word → Some value ≡ decimal_of word
unfolding decimal_of
decimal_end word i value some few over h digits =
    let none : drop i word ≡ [] = nil_from_length (drop i word) (simp length-drop (omega arith)) in
    let all = sym (rw none at digits) in
    rw (lt-ltb 0 (length word) some, le-leb (length word) 10 few, all) (ap (λ z. Some z) (value_end word i value over h))

-- A script line by line: the line's number is n, and k events stand before it.
abbrev pub read_cases : Option (Result Event ScriptFault) → ℕ → ℕ → Parsed → Parsed → Parsed
read_cases None n k skipped taken = skipped
read_cases (Some (Err fault)) n k skipped taken = Err (n, fault)
read_cases (Some (Ok e)) n k skipped taken = if nat_lt k 10000 then after_event e taken else Err (n, TooManyEvents)

unfoldable pub events_from : ℕ → List (List ℕ) → ℕ → ℕ → Parsed
events_from files [] n k = Ok []
events_from files (line ∷ more) n k = read_cases (event_of_line files line) n k (events_from files more (n + 1) k) (events_from files more (n + 1) (k + 1))

nothing_left : (k : ℕ) → Ok [] ≡ events_of k []
unfolding events_of
nothing_left k = refl

reading_is : (o : Option (Result Event ScriptFault)) (n k : ℕ) (more : List (ℕ × Result Event ScriptFault))
    → read_cases o n k (events_of k more) (events_of (k + 1) more) ≡ events_of k (option_to_list (option_map (λ r. (n, r)) o) ++ more)
unfolding events_of
reading_is None n k more = refl
reading_is (Some (Err fault)) n k more = refl
reading_is (Some (Ok e)) n k more = refl

pub lines_are : (files n k : ℕ) (lines : List (List ℕ)) → events_from files lines n k ≡ events_of k (readings files n lines)
unfolding events_from readings
lines_are files n k [] = nothing_left k
lines_are files n k (line ∷ more) =
    ap (λ x. read_cases (event_of_line files line) n k x (events_from files more (n + 1) (k + 1))) (lines_are files (n + 1) k more)
    ∙ ap (λ x. read_cases (event_of_line files line) n k (events_of k (readings files (n + 1) more)) x) (lines_are files (n + 1) (k + 1) more)
    ∙ reading_is (event_of_line files line) n k (readings files (n + 1) more)

-- Events before what the rest of a script gives.
abbrev pub behind : List Event → Result (List Event) (ℕ × ScriptFault) → Result (List Event) (ℕ × ScriptFault)
behind events (Ok more) = Ok (events ++ more)
behind events (Err fault) = Err fault

pub behind_push : (events : List Event) (e : Event) (r : Result (List Event) (ℕ × ScriptFault)) → behind events (after_event e r) ≡ behind (events ++ e ∷ []) r
behind_push events e (Ok more) = ap (λ z. Ok z) (sym (append_assoc events (e ∷ []) more))
behind_push events e (Err fault) = refl

pub behind_none : (r : Result (List Event) (ℕ × ScriptFault)) → behind [] r ≡ r
behind_none (Ok more) = refl
behind_none (Err fault) = refl

-- The first line of what is left of a script.
pub unroll : (files n k : ℕ) (events : List Event) (lines : List (List ℕ)) (line : List ℕ) (more : List (List ℕ)) (all : Result (List Event) (ℕ × ScriptFault))
    → lines ≡ line ∷ more → behind events (events_from files lines n k) ≡ all
    → behind events (read_cases (event_of_line files line) n k (events_from files more (n + 1) k) (events_from files more (n + 1) (k + 1))) ≡ all
unfolding events_from
unroll files n k events lines line more all e h = rw e at h

-- A line's fault is the script's first.
pub line_bad : (n k : ℕ) (events : List Event) (o : Option (Result Event ScriptFault)) (x y all : Result (List Event) (ℕ × ScriptFault)) (fault : ScriptFault)
    → behind events (read_cases o n k x y) ≡ all → o ≡ Some (Err fault) → all ≡ Err (n, fault)
line_bad n k events o x y all fault h same = let at = rw same at h in sym at

pub refused_first : (n : ℕ) (fault : ScriptFault) (all : Result (List Event) (ℕ × ScriptFault)) (refusal : Obstacle ScriptError)
    → all ≡ Err (n, fault) → IfRefused refusal (IsLineFault n (Some (Err fault))) → IfRefused refusal (IsFirstFault all)
refused_first n fault all OutOfMemory e h = tt
refused_first n fault all (Refused error) e h = rw e h

pub line_skipped : (n k : ℕ) (events : List Event) (o : Option (Result Event ScriptFault)) (x y all : Result (List Event) (ℕ × ScriptFault))
    → behind events (read_cases o n k x y) ≡ all → None ≡ o → behind events x ≡ all
line_skipped n k events o x y all h e = rw (← e) at h

pub line_taken : (n k : ℕ) (events : List Event) (o : Option (Result Event ScriptFault)) (x y all : Result (List Event) (ℕ × ScriptFault)) (e : Event)
    → behind events (read_cases o n k x y) ≡ all → o ≡ Some (Ok e) → k < 10000 → behind (events ++ e ∷ []) y ≡ all
line_taken n k events o x y all e h same few =
    let test : nat_lt k 10000 ≡ true = lt-ltb k 10000 few in
    let at = rw (same, test) at h in
    sym (behind_push events e y) ∙ at

pub line_over : (n k : ℕ) (events : List Event) (o : Option (Result Event ScriptFault)) (x y all : Result (List Event) (ℕ × ScriptFault)) (e : Event)
    → behind events (read_cases o n k x y) ≡ all → o ≡ Some (Ok e) → 10000 ≤ k → all ≡ Err (n, TooManyEvents)
line_over n k events o x y all e h same many =
    let test : nat_lt k 10000 ≡ false = le-ltb k 10000 many in
    let at = rw (same, test) at h in
    sym at

pub script_end : (files n k : ℕ) (events : List Event) (lines : List (List ℕ)) (all : Result (List Event) (ℕ × ScriptFault))
    → lines ≡ [] → behind events (events_from files lines n k) ≡ all → all ≡ Ok events
unfolding events_from
script_end files n k events lines all none h = let at = rw none at h in sym at ∙ ap (λ z. Ok z) (append-nil events)
