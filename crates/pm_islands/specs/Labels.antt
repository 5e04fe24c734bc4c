-- Labels of the nodes of a plan, in the order of nodes: each is the place of the first node of those that it joins (this
-- project's own).
use Rattle.std.specs.Prelude.{ℕ, ◌≡◌, ◌<◌, ◌≤◌, List, Some, length, map, max, min, nat_eq, slice_index_or, if◌then◌else◌}
use Rattle.pm_model.specs.declared.plan.Plan.{Plan}
use Rattle.pm_model.specs.Islands.{Connected, Node}
use Rattle.pm_islands.specs.declared.touching.Tie.{Tie}
use Rattle.pm_islands.specs.Places.{node_at, nodes, place, tied}

-- the label at a place, and of a node
abbrev pub label_at : List ℕ → ℕ → ℕ
label_at labels i = slice_index_or labels i 0

abbrev pub label_of : Plan → List ℕ → Node → ℕ
label_of plan labels a = label_at labels (place plan a)

-- each node has one, which is the place of a node that is connected with it, stands no later and has itself as label
pub record AreLabels (plan : Plan) (labels : List ℕ) : Type 0 where
  pub one_each : length labels ≡ nodes plan
  pub no_later : (i : ℕ) → i < nodes plan → label_at labels i ≤ i
  pub first : (i : ℕ) → i < nodes plan → label_at labels (label_at labels i) ≡ label_at labels i
  pub connected : (i : ℕ) → i < nodes plan → Connected plan (node_at plan i) (node_at plan (label_at labels i))

-- what shares a label still does
abbrev pub Keeps : Plan → List ℕ → List ℕ → Type 0
Keeps plan old new = (i j : ℕ) → i < nodes plan → j < nodes plan → label_at old i ≡ label_at old j → label_at new i ≡ label_at new j

-- what the first n rows tie in this way shares its label
abbrev pub Joins : Plan → Tie → ℕ → List ℕ → Type 0
Joins plan tie n labels = (k : ℕ) (a b : Node) → k < n → tied plan tie k ≡ Some (a, b) → label_of plan labels a ≡ label_of plan labels b

-- labels after the first n rows have been gone over
pub record Joined (plan : Plan) (tie : Tie) (n : ℕ) (old new : List ℕ) : Type 0 where
  pub labels : AreLabels plan new
  pub keeps : Keeps plan old new
  pub joins : Joins plan tie n new

-- labels that all nodes that touch share
pub record AreShared (plan : Plan) (labels : List ℕ) : Type 0 where
  pub are : AreLabels plan labels
  pub joins : (tie : Tie) (n : ℕ) → Joins plan tie n labels

-- each label from is put for this one
abbrev pub put_for : ℕ → ℕ → ℕ → ℕ
put_for from to x = if nat_eq x from then to else x

abbrev pub relabelled : ℕ → ℕ → List ℕ → List ℕ
relabelled from to labels = map (put_for from to) labels

-- the labels at two places become the lower of them
abbrev pub joined : ℕ → ℕ → List ℕ → List ℕ
joined a b labels = relabelled (max (label_at labels a) (label_at labels b)) (min (label_at labels a) (label_at labels b)) labels
