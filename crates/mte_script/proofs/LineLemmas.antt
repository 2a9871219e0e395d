-- The first line of a text: its words, and the lines after it.
use Rattle.std.proofs.Common.{◌≡◌, ℕ, suc, ◌+◌, ◌-◌, ◌<◌, ◌≤◌, ◌==◌, nat_le, Bool, true, false, List}
use Rattle.std.proofs.Common.{[], ◌∷◌, ◌++◌, length, take, drop, get_or, refl, ap, sym, ◌∙◌, arith, add-one}
use Rattle.std.proofs.Common.{length-drop, inl, inr, append_assoc, Some, None, Result}
use Rattle.std.specs.Prelude.{if◌then◌else◌, filter}
use Rattle.std.proofs.lemmas.List.{drop_more, nil_from_length, take_all, drop-drop, length-take}
use Rattle.std.proofs.lemmas.List.{take-append-le, take-take, append-nil, get_or-drop, get_or_default, get_or_past}
use Rattle.std.proofs.lemmas.List.Elements.{filter-append}
use Rattle.std.proofs.lemmas.Bool.{le-leb, cases_lt, cond-true, cond-false, lt-leb, ne_eqb, eq-eqb}
use Rattle.mte_script.specs.Scripts.{pieces_at, piece_len_of, words_of, starts_comment, is_some_text}
use Rattle.mte_script.specs.Scripts.{event_of_line, event_by}
use Rattle.mte_script.specs.Lines.{line_of}
use Rattle.mte_script.specs.declared.event.Event.{Event}
use Rattle.mte_script.specs.declared.error.ScriptFault.{ScriptFault}
use Rattle.mte_script.proofs.ScriptLemmas.{line_event, line_comment}

-- Where the first word of a text ends.
abbrev pub word_len : List ℕ → ℕ
word_len text = piece_len_of 32 (line_of text)

-- Whether the line of a text ends with its first word.
abbrev pub is_last : List ℕ → Bool
is_last text = get_or text (word_len text) 10 == 10

pub found_lf : (text : List ℕ) (i d : ℕ) → i < length text → (get_or text i d == 10) ≡ true → i + word_len (drop i text) ≡ i
unfolding piece_len_of line_of
found_lf text i d below e = rw (drop_more text i d below, e) (omega arith)

pub found_space : (text : List ℕ) (i d : ℕ) (line : Bool) → i < length text → (get_or text i d == 10) ≡ line → (get_or text i d == 32) ≡ true
    → i + word_len (drop i text) ≡ i
unfolding piece_len_of line_of
found_space text i d true below e s = rw (drop_more text i d below, e) (omega arith)
found_space text i d false below e s = rw (drop_more text i d below, e, s) (omega arith)

pub end_step : (text : List ℕ) (i d : ℕ) → i < length text → (get_or text i d == 10) ≡ false → (get_or text i d == 32) ≡ false
    → i + word_len (drop i text) ≡ (i + 1) + word_len (drop (i + 1) text)
unfolding piece_len_of line_of
end_step text i d below e s = rw (drop_more text i d below, e, s) (omega arith)

pub end_text : (text : List ℕ) (i : ℕ) → length text ≤ i → i ≤ length text → i + word_len (drop i text) ≡ length text
unfolding piece_len_of line_of
end_text text i over within =
    let none : drop i text ≡ [] = nil_from_length (drop i text) (simp length-drop (omega arith)) in
    rw none (omega arith)

-- A text whose line goes on after the first word: the pieces of the line, and its length.
abbrev GoesOn : List ℕ → Type 0
GoesOn text =
    (pieces_at 32 (line_of text) ≡ take (word_len text) text ∷ pieces_at 32 (line_of (drop (word_len text + 1) text)))
    × (length (line_of text) ≡ word_len text + 1 + length (line_of (drop (word_len text + 1) text)))

goes_step : (b : ℕ) (more : List ℕ) (line space : Bool) → (b == 10) ≡ line → (b == 32) ≡ space
    → (is_last more ≡ false → GoesOn more) → is_last (b ∷ more) ≡ false → GoesOn (b ∷ more)
unfolding pieces_at piece_len_of line_of
goes_step b more true space e s rest other =
    let at = rw e at other in
    absurd (cc)
goes_step b more false true e s rest other = (rw (e, s) refl, rw (e, s) (omega arith))
goes_step b more false false e s rest other =
    let n = word_len more in
    let at = rw (e, s, add-one n) at other in
    let inner = rest at in
    (rw (e, s, inner.0, add-one n, add-one (suc n)) refl, rw (e, s, inner.1, add-one n, add-one (suc n)) (omega arith))

pub goes_on : (text : List ℕ) → is_last text ≡ false → GoesOn text
goes_on [] other = absurd (cc)
goes_on (b ∷ more) other = goes_step b more (b == 10) (b == 32) refl refl (goes_on more) other

-- A text whose line is its first word.
abbrev EndsHere : List ℕ → Type 0
EndsHere text = (pieces_at 32 (line_of text) ≡ take (word_len text) text ∷ []) × (length (line_of text) ≡ word_len text)

ends_step : (b : ℕ) (more : List ℕ) (line space : Bool) → (b == 10) ≡ line → (b == 32) ≡ space
    → (is_last more ≡ true → EndsHere more) → is_last (b ∷ more) ≡ true → EndsHere (b ∷ more)
unfolding pieces_at piece_len_of line_of
ends_step b more true space e s rest last = (rw e refl, rw e refl)
ends_step b more false true e s rest last =
    let at = rw (e, s) at last in
    absurd (cc)
ends_step b more false false e s rest last =
    let n = word_len more in
    let at = rw (e, s, add-one n) at last in
    let inner = rest at in
    (rw (e, s, inner.0, add-one n) refl, rw (e, s, inner.1, add-one n) (omega arith))

pub ends_here : (text : List ℕ) → is_last text ≡ true → EndsHere text
unfolding pieces_at piece_len_of line_of
ends_here [] last = (refl, refl)
ends_here (b ∷ more) last = ends_step b more (b == 10) (b == 32) refl refl (ends_here more) last

-- Of a list with as many words as are read, what is added after them is passed over.
pub take_twice : (n : ℕ) (xs ys : List (List ℕ)) → take n (take n xs ++ ys) ≡ take n (xs ++ ys)
take_twice n xs ys = elim (cases_lt n (length xs)) [
  | inl many ↦
      let enough : n ≤ length (take n xs) = simp length-take (omega arith) in
      let all : n ≤ length xs = omega arith in
      take-append-le n (take n xs) ys enough ∙ take-take n n xs (omega arith) ∙ sym (take-append-le n xs ys all)
  | inr few ↦ ap (λ z. take n (z ++ ys)) (take_all n xs few)
]

-- The words that were read, and one more of a line that goes on.
pub words_on : (text : List ℕ) (read next all : List (List ℕ)) → is_last text ≡ false
    → next ≡ take 14 (read ++ filter is_some_text (take (word_len text) text ∷ []))
    → take 14 (read ++ words_of (line_of text)) ≡ all
    → take 14 (next ++ words_of (line_of (drop (word_len text + 1) text))) ≡ all
words_on text read next all other e h =
    let pieces = (goes_on text other).0 in
    let rest = pieces_at 32 (line_of (drop (word_len text + 1) text)) in
    let word = take (word_len text) text in
    let split : words_of (line_of text) ≡ filter is_some_text (word ∷ []) ++ filter is_some_text rest =
    ap (filter is_some_text) pieces ∙ filter-append is_some_text (word ∷ []) rest in
    ap (λ z. take 14 (z ++ filter is_some_text rest)) e
    ∙ take_twice 14 (read ++ filter is_some_text (word ∷ [])) (filter is_some_text rest)
    ∙ ap (take 14) (append_assoc read (filter is_some_text (word ∷ [])) (filter is_some_text rest))
    ∙ ap (λ z. take 14 (read ++ z)) (sym split)
    ∙ h

-- The same of a line that ends.
pub words_end : (text : List ℕ) (read next all : List (List ℕ)) → is_last text ≡ true
    → next ≡ take 14 (read ++ filter is_some_text (take (word_len text) text ∷ []))
    → take 14 (read ++ words_of (line_of text)) ≡ all → next ≡ all
words_end text read next all last e h =
    let pieces = (ends_here text last).0 in
    e ∙ ap (λ z. take 14 (read ++ filter is_some_text z)) (sym pieces) ∙ h

-- The same of places in a script, with what the code tests.
pub last_not : (script : List ℕ) (at end : ℕ) → end ≡ at + word_len (drop at script) → end < length script
    → (get_or script end 0 == 10) ≡ false → is_last (drop at script) ≡ false
last_not script at end e below other =
    let same = get_or-drop at script (word_len (drop at script)) 10 ∙ ap (λ i. get_or script i 10) (sym e) in
    ap (λ b. b == 10) (same ∙ get_or_default script end 10 0 below) ∙ other

pub last_lf : (script : List ℕ) (at end : ℕ) → end ≡ at + word_len (drop at script) → end < length script
    → (get_or script end 0 == 10) ≡ true → is_last (drop at script) ≡ true
last_lf script at end e below other =
    let same = get_or-drop at script (word_len (drop at script)) 10 ∙ ap (λ i. get_or script i 10) (sym e) in
    ap (λ b. b == 10) (same ∙ get_or_default script end 10 0 below) ∙ other

pub last_past : (script : List ℕ) (at end : ℕ) → end ≡ at + word_len (drop at script) → length script ≤ end
    → is_last (drop at script) ≡ true
last_past script at end e past =
    let same = get_or-drop at script (word_len (drop at script)) 10 ∙ ap (λ i. get_or script i 10) (sym e) in
    ap (λ b. b == 10) (same ∙ get_or_past script end 10 past)

pub add_none : (read : List (List ℕ)) (word : List ℕ) → length read ≤ 14 → length word ≡ 0
    → read ≡ take 14 (read ++ filter is_some_text (word ∷ []))
add_none read [] few none = sym (take_all 14 read few) ∙ ap (take 14) (sym (append-nil read))
add_none read (b ∷ more) few none = absurd (omega arith)

pub add_over : (read more : List (List ℕ)) → length read ≡ 14 → read ≡ take 14 (read ++ more)
add_over read more full = sym (take_all 14 read (omega arith)) ∙ sym (take-append-le 14 read more (omega arith))

-- The lines of a script from a place on; none after its end.
abbrev pub lines_from : List ℕ → ℕ → List (List ℕ)
lines_from script start = if nat_le start (length script) then pieces_at 10 (drop start script) else []

pub lines_first : (script : List ℕ) → lines_from script 0 ≡ pieces_at 10 script
lines_first script = cond-true _ _ _ (le-leb 0 (length script) (omega arith))

pub lines_past : (script : List ℕ) (start : ℕ) → length script < start → lines_from script start ≡ []
lines_past script start past = cond-false _ _ _ (lt-leb start (length script) past)

below_step : (b : ℕ) (more : List ℕ) (line : Bool) → (b == 10) ≡ line
    → (length (line_of more) < length more → pieces_at 10 more ≡ line_of more ∷ pieces_at 10 (drop (length (line_of more) + 1) more))
    → length (line_of (b ∷ more)) < length (b ∷ more)
    → pieces_at 10 (b ∷ more) ≡ line_of (b ∷ more) ∷ pieces_at 10 (drop (length (line_of (b ∷ more)) + 1) (b ∷ more))
unfolding pieces_at line_of
below_step b more true e rest below = rw e refl
below_step b more false e rest below =
    let n = length (line_of more) in
    let less = rw e at below in
    let inner = rest (omega arith) in
    rw (e, inner, add-one (suc n)) (rw (add-one n) refl)

line_below : (text : List ℕ) → length (line_of text) < length text
    → pieces_at 10 text ≡ line_of text ∷ pieces_at 10 (drop (length (line_of text) + 1) text)
line_below [] below = absurd (omega arith)
line_below (b ∷ more) below = below_step b more (b == 10) refl (line_below more) below

whole_step : (b : ℕ) (more : List ℕ) (line : Bool) → (b == 10) ≡ line
    → (length more ≤ length (line_of more) → pieces_at 10 more ≡ line_of more ∷ [])
    → length (b ∷ more) ≤ length (line_of (b ∷ more)) → pieces_at 10 (b ∷ more) ≡ line_of (b ∷ more) ∷ []
unfolding pieces_at line_of
whole_step b more true e rest over = let one = rw e at over in absurd (omega arith)
whole_step b more false e rest over =
    let one = rw e at over in
    let inner = rest (omega arith) in
    rw (e, inner) refl

line_whole : (text : List ℕ) → length text ≤ length (line_of text) → pieces_at 10 text ≡ line_of text ∷ []
unfolding pieces_at line_of
line_whole [] over = refl
line_whole (b ∷ more) over = whole_step b more (b == 10) refl (line_whole more) over

-- The line that begins at a place, and those after it.
pub next_line : (script : List ℕ) (start end : ℕ) → start ≤ length script → end ≡ start + length (line_of (drop start script))
    → lines_from script start ≡ line_of (drop start script) ∷ lines_from script (end + 1)
next_line script start end within e =
    let t = drop start script in
    let size : length t ≡ length script - start = length-drop start script in
    cond-true _ _ _ (le-leb start (length script) within) ∙ elim (cases_lt (length (line_of t)) (length t)) [
      | inl below ↦
          let place : start + (length (line_of t) + 1) ≡ end + 1 = omega arith in
          let left = drop-drop (length (line_of t) + 1) start script ∙ ap (λ i. drop i script) place in
          let more : end + 1 ≤ length script = omega arith in
          line_below t below ∙ ap (λ z. line_of t ∷ z) (ap (pieces_at 10) left ∙ sym (cond-true _ _ _ (le-leb (end + 1) (length script) more)))
      | inr over ↦
          let past : length script < end + 1 = omega arith in
          line_whole t over ∙ ap (λ z. line_of t ∷ z) (sym (lines_past script (end + 1) past))
    ]

comment_step : (b : ℕ) (more : List ℕ) (line : Bool) → (b == 10) ≡ line → starts_comment (line_of (b ∷ more)) ≡ (b == 35)
unfolding line_of
comment_step b more true e = rw e (grind arith)
comment_step b more false e = rw e refl

-- A line is a comment by the first byte of the text.
pub comment_at : (script : List ℕ) (i d : ℕ) → i < length script → starts_comment (line_of (drop i script)) ≡ (get_or script i d == 35)
comment_at script i d below = rw (drop_more script i d below) (comment_step (get_or script i d) (drop (i + 1) script) (get_or script i d == 10) refl)

no_line : (text : List ℕ) → length text ≡ 0 → length (take 14 (words_of (line_of text))) ≡ 0
unfolding line_of pieces_at
no_line [] none = refl
no_line (b ∷ more) none = absurd (omega arith)

-- A line with a word is not after the script's end.
pub some_word : (script : List ℕ) (start : ℕ) (ws : List (List ℕ)) → ws ≡ take 14 (words_of (line_of (drop start script))) → 0 < length ws
    → start < length script
some_word script start ws e some = elim (cases_lt start (length script)) [
  | inl below ↦ below
  | inr past ↦
      let none : length (drop start script) ≡ 0 = simp length-drop (omega arith) in
      let zero = ap length e ∙ no_line (drop start script) none in
      absurd (omega arith)
]

-- The event of a line by its words, and none of a comment.
pub line_read : (files : ℕ) (script : List ℕ) (start : ℕ) (ws : List (List ℕ)) (r : Result Event ScriptFault) → ws ≡ take 14 (words_of (line_of (drop start script)))
    → 0 < length ws → (get_or script start 0 ≡ 35 → ⊥) → r ≡ event_by files ws → event_of_line files (line_of (drop start script)) ≡ Some r
line_read files script start ws r words some other is =
    let first = comment_at script start 0 (some_word script start ws words some) ∙ ne_eqb (get_or script start 0) 35 other in
    line_event files (line_of (drop start script)) ws r first words some is

pub line_passed : (files : ℕ) (script : List ℕ) (start : ℕ) (ws : List (List ℕ)) → ws ≡ take 14 (words_of (line_of (drop start script)))
    → 0 < length ws → get_or script start 0 ≡ 35 → None ≡ event_of_line files (line_of (drop start script))
line_passed files script start ws words some same =
    line_comment files (line_of (drop start script)) (comment_at script start 0 (some_word script start ws words some) ∙ eq-eqb (get_or script start 0) 35 same)
