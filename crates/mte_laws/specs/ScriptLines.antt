-- Scripts of some of a script's lines.
use Rattle.std.specs.Prelude.{◌≡◌, ℕ, Bool, List, ◌++◌, map, filter, zip, flat_map}
use Rattle.std.specs.Prelude.{is_some, Ok, codes}
use Rattle.mte_script.specs.declared.event.Event.{Event}
use Rattle.mte_script.specs.Scripts.{lines_of, event_of_line, script_events}

-- The members of a list that a mask keeps.
abbrev pub chosen : {X : Type 0} → List Bool → List X → List X
chosen mask xs = map (λ p. p.0) (filter (λ p. p.1) (zip xs mask))

-- The lines of a script that have an event.
abbrev pub event_lines : ℕ → List ℕ → List (List ℕ)
event_lines files script = filter (λ line. is_some (event_of_line files line)) (lines_of script)

-- A script of lines.
abbrev pub script_of : List (List ℕ) → List ℕ
script_of lines = flat_map (λ line. line ++ codes "\n") lines

-- A script of some of a script's lines has the events of those lines.
abbrev pub LinesMayBeLeftOut : Type 0
LinesMayBeLeftOut =
    (files : ℕ) (script : List ℕ) (events : List Event) (mask : List Bool) →
    script_events files script ≡ Ok events →
    script_events files (script_of (chosen mask (event_lines files script)))
    ≡ Ok (chosen mask events)
