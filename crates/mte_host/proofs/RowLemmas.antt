-- The values of an argument, as the matches and as their rows have them.
use Rattle.std.proofs.Common.{◌≡◌, ℕ, Bool, true, false, List, [], ◌∷◌, Option, Some, None, map, refl, ap, ◌∙◌}
use Rattle.std.proofs.Common.{if◌then◌else◌, find, slice_get, unwrap_or, option_map, option_and_then, codes}
use Rattle.std.specs.Option.{option_map_or}
use Rattle.std.specs.Str.{bytes_eq}
use Rattle.std.specs.Borrow.{Bor}
use Rattle.clap.specs.Facts.{Entry}
use Rattle.clap.specs.Matches.{matched_of, first_value, raw_values}
use Rattle.clap.specs.Walk.{Row, row_of, rows_of}
use Rattle.clap.specs.declared.parser.matches.Found.{Found}
use Rattle.clap.specs.declared.parser.matches.MatchedArg.{MatchedArg}
use Rattle.mte_host.specs.CommandLine.{values_at, names_in}

found_if : (b : Bool) (e : Entry) (o : Option Row) (q : Option Entry) → o ≡ option_map row_of q
    → (if b then Some (row_of e) else o) ≡ option_map row_of (if b then Some e else q)
found_if true e o q same = refl
found_if false e o q same = same

found_row : (id : List ℕ) (es : List Entry) → find (λ r. bytes_eq r.id id) (map row_of es) ≡ option_map row_of (find (λ e. bytes_eq e.0.now id) es)
found_row id [] = refl
found_row id (e ∷ es) = found_if (bytes_eq e.0.now id) e _ _ (found_row id es)

abbrev pub texts_of : Option MatchedArg → List (List ℕ)
texts_of None = []
texts_of (Some a) = raw_values a

abbrev pub text_or_none : Option (List ℕ) → List ℕ
text_or_none None = []
text_or_none (Some t) = t

or_none : (o : Option (List ℕ)) → unwrap_or o [] ≡ text_or_none o
or_none None = refl
or_none (Some t) = refl

values_of_entry : (o : Option Entry) → option_map_or (λ r. r.values) (option_map row_of o) [] ≡ texts_of (option_map (λ e. e.1) o)
values_of_entry None = refl
values_of_entry (Some e) = refl

pub values_found : (f : Found) (id : List ℕ) → values_at id (rows_of f) ≡ texts_of (matched_of f id)
values_found f id =
    ap (λ o. option_map_or (λ (r : Row). r.values) o []) (found_row id f.entries.items)
    ∙ values_of_entry (find (λ e. bytes_eq e.0.now id) f.entries.items)

first_of : (vs : List (Bor (List ℕ))) → slice_get (map (λ s. s.now) vs) 0 ≡ option_map (λ s. s.now) (slice_get vs 0)
first_of [] = refl
first_of (v ∷ vs) = refl

first_text : (o : Option MatchedArg) → slice_get (texts_of o) 0 ≡ option_and_then (λ a. option_map (λ s. s.now) (slice_get a.vals.items 0)) o
first_text None = refl
first_text (Some a) = first_of a.vals.items

pub first_found : (f : Found) (id : List ℕ) → slice_get (values_at id (rows_of f)) 0 ≡ first_value f id
first_found f id = ap (λ t. slice_get t 0) (values_found f id) ∙ first_text (matched_of f id)

pub names_found : (f : Found) → names_in (rows_of f) ≡ text_or_none (first_value f (codes "script")) ∷ texts_of (matched_of f (codes "files"))
names_found f =
    ap (λ t. unwrap_or t [] ∷ values_at (codes "files") (rows_of f)) (first_found f (codes "script"))
    ∙ ap (λ t. t ∷ values_at (codes "files") (rows_of f)) (or_none (first_value f (codes "script")))
    ∙ ap (λ t. text_or_none (first_value f (codes "script")) ∷ t) (values_found f (codes "files"))
