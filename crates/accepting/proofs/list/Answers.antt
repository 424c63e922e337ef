-- `accepting::list` meets its contract: each refusal in its order. Assumes nothing.
use Rattle.meshes.proofs.Endings.{list_components, list_too_long}
use Rattle.accepting.proofs.list.Goals as goal

pub returns-then-n-gt-MOST_COMPONENTS : goal.returns-then-n-gt-MOST_COMPONENTS
returns-then-n-gt-MOST_COMPONENTS c = λ mesh room. list_components mesh _ _ room c.if-n-gt-MOST_COMPONENTS.true

pub returns-then-values-gt-MOST_NUMBERS : goal.returns-then-values-gt-MOST_NUMBERS
returns-then-values-gt-MOST_NUMBERS c = λ mesh room. list_too_long mesh _ _ room c.if-n-gt-MOST_COMPONENTS.false c.if-values-gt-MOST_NUMBERS.true
