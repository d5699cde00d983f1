-- What is a sheet and what is not.
use Rattle.std.specs.Prelude.{Bool, true, false, List, [], ◌∷◌, ◌++◌, map, ◌≡◌, refl, take, replicate}
use Rattle.model.specs.Sheet.{is_sheet}
use Rattle.case_samples.specs.Opened.{definitions}
use Rattle.case_samples.specs.Samples.{P, True, plain, barred, all_of, any_of, root, sheet, samples}

-- No rules, no options; the last of 512 options; "an all-of with 4,094 trues", which fills every place.
unfoldable pub good : List Bool
good =
    map
    is_sheet
    (sheet 0 (root 0 ∷ [])
    ∷ sheet 512 (root 1 ∷ plain 511 ∷ [])
    ∷ sheet 0 (root 1 ∷ all_of 4094 ∷ replicate 4094 True)
    ∷ [])

-- "Anything else is no sheet."
unfoldable pub bad : List Bool
bad =
    map
    is_sheet
    -- "Exactly 4,098 numbers": none, one too few, one too many.
    ([]
    ∷ take 4097 (sheet 0 (root 0 ∷ []))
    ∷ (sheet 0 (root 0 ∷ []) ++ (0 ∷ []))
    -- "N (0 to 512)".
    ∷ sheet 513 (root 0 ∷ [])
    -- "The count of nodes used": 0, with nodes and without; one too few; one too many, and more than there are places.
    ∷ replicate 4098 0
    ∷ (0 ∷ 0 ∷ root 0 ∷ replicate 4095 0)
    ∷ (0 ∷ 1 ∷ root 1 ∷ True ∷ replicate 4094 0)
    ∷ (0 ∷ 2 ∷ root 0 ∷ replicate 4095 0)
    ∷ (0 ∷ 4097 ∷ root 1 ∷ all_of 4094 ∷ replicate 4094 True)
    -- "As one tree": a child too few, a child too many.
    ∷ sheet 0 (root 1 ∷ [])
    ∷ sheet 0 (root 0 ∷ True ∷ [])
    -- "With kind 5 only at its head"; no option N; no kind 0, 7, 9 or 15, nor 13 at its head. (`MemberCases` has kind 6.)
    ∷ sheet 0 (all_of 1 ∷ True ∷ [])
    ∷ sheet 0 (root 1 ∷ root 0 ∷ [])
    ∷ sheet 1 (root 1 ∷ plain 1 ∷ [])
    ∷ sheet 1 (root 1 ∷ barred 1 ∷ [])
    ∷ sheet 1 (root 1 ∷ 0 ∷ [])
    ∷ sheet 1 (root 1 ∷ 28672 ∷ [])
    ∷ sheet 1 (root 1 ∷ 36864 ∷ [])
    ∷ sheet 1 (root 1 ∷ 65535 ∷ [])
    ∷ sheet 0 (53248 ∷ [])
    -- "Then zeros": right after the nodes, at the very end.
    ∷ (0 ∷ 1 ∷ root 0 ∷ True ∷ replicate 4094 0)
    ∷ (0 ∷ 1 ∷ root 0 ∷ replicate 4094 0 ++ (1 ∷ []))
    -- "The weight is at most 4,096": 4,097.
    ∷ sheet 1 (root 2 ∷ any_of 2047 ∷ replicate 2047 P ++ (True ∷ []))
    ∷ [])

pub sheets_known : good ++ bad ≡ replicate 3 true ++ replicate 23 false
unfolding definitions samples good bad
sheets_known = refl
