-- How many trees and nodes there are before the rule and after it.
use mathlib.Core.Bool.{true}
use mathlib.Core.Path.{◌≡◌, refl, ap}
use Prim.Native.Nat.{suc, ◌+◌, ◌≤◌}
use native.Mathlib.Omega.{arith}
use lib.ListN.{length-append}
use Rattle.model.specs.Literal.{Literal}
use Rattle.model.specs.Forest.{and, or, Forest, nil, lit, node, ◌⊕◌, size}
use Rattle.model.specs.Code.{encode, literals, weight}
use Rattle.model.specs.Rules.{shares, units, groups_without, groups}
use Rattle.theory_forms.specs.Codes.{literals_append}
use Rattle.theory_rewriting.specs.Mass.{heft_two, mass, mass-⊕, mass_shared}

-- The children of a node that is factored.
abbrev pub shared_kids : Literal → Forest → Forest
shared_kids a k = units k ⊕ node and (lit a (node or (groups_without a k) nil)) nil

pub size_units : (f : Forest) → size (units f) + groups f ≡ size f
unfolding size units groups
size_units nil = refl
size_units (lit x f) = omega (arith, size_units f)
size_units (node c k f) = omega (arith, size_units f)

pub size_groups : (a : Literal) (f : Forest) → size (groups_without a f) ≡ groups f
unfolding size groups_without groups
size_groups a nil = refl
size_groups a (lit x f) = size_groups a f
size_groups a (node c k f) = ap suc (size_groups a f)

-- The weight is the mass with two for a literal, so it does not rise where there are two groups.
weight_mass : (f : Forest) → weight (encode f) ≡ mass 2 f
unfolding weight encode literals mass
weight_mass nil = refl
weight_mass (lit x f) = omega (arith, weight_mass f)
weight_mass (node c k f) =
    omega (arith, heft_two c, weight_mass k, weight_mass f, length-append (encode k) (encode f), literals_append (encode k) (encode f))

pub shared_light :
    (a : Literal) (k f : Forest) →
    shares a k ≡ true →
    2 ≤ groups k →
    weight (encode (node or (shared_kids a k) f)) ≤ weight (encode (node or k f))
unfolding mass
shared_light a k f s g =
    omega (arith, heft_two and, heft_two or, weight_mass (node or (shared_kids a k) f), weight_mass (node or k f), mass-⊕ 2 (units k) (node and (lit a (node or (groups_without a k) nil)) nil), mass_shared 2 a k s)
