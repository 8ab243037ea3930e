-- How the logic stores the content of a reply; only the model of `Body` uses it. A value is stored as the steps that build
-- it, the last step first.
use Rattle.std.specs.Prelude.{◌≡◌, ℕ, ℤ, pos, List, [], ◌∷◌, Bool, true, false, cond, ◌==◌, refl}
use Rattle.std.specs.Float.{Float, nan}
use Rattle.std.specs.Coded.{Coded, code_by, coded×, coded_ℕ, coded_ℤ, coded_bool, coded_list}
use base.Stored.{coded_float}
use Rattle.serde_json.specs.Data.{unsigned, negative, float, Data, null, boolean, number, string, array, object, Items, no_items, item, Members, no_members, member}
use Rattle.rpc_lines.specs.Reply.{Content, with_result, with_error}

-- a kind of step, and what it carries
abbrev Step : Type 0
Step = ℕ × (ℕ × (List ℕ × (ℤ × Float)))

abbrev step_code : Coded Step
step_code = coded× coded_ℕ (coded× coded_ℕ (coded× (coded_list coded_ℕ) (coded× coded_ℤ coded_float)))

abbrev text_step : ℕ → List ℕ → Step
text_step kind text = (kind, (0, (text, (pos 0, nan))))

abbrev mutual
  steps : Data → List Step → List Step
  steps null more = text_step 0 [] ∷ more
  steps (boolean true) more = text_step 1 [] ∷ more
  steps (boolean false) more = text_step 2 [] ∷ more
  steps (number (unsigned n)) more = (3, (n, ([], (pos 0, nan)))) ∷ more
  steps (number (negative z)) more = (4, (0, ([], (z, nan)))) ∷ more
  steps (number (float x)) more = (5, (0, ([], (pos 0, x)))) ∷ more
  steps (string text) more = text_step 6 text ∷ more
  steps (array items) more = item_steps items more
  steps (object entries) more = member_steps entries more

  item_steps : Items → List Step → List Step
  item_steps no_items more = text_step 7 [] ∷ more
  item_steps (item value items) more = text_step 8 [] ∷ steps value (item_steps items more)

  member_steps : Members → List Step → List Step
  member_steps no_members more = text_step 9 [] ∷ more
  member_steps (member key value entries) more = text_step 10 key ∷ steps value (member_steps entries more)

abbrev joined_item : List Data → List Data
joined_item (value ∷ array items ∷ built) = array (item value items) ∷ built
joined_item built = built

abbrev joined_member : List ℕ → List Data → List Data
joined_member key (value ∷ object entries ∷ built) = object (member key value entries) ∷ built
joined_member key built = built

-- what a step makes of the values that are built
abbrev taken_step : Step → List Data → List Data
taken_step step built =
    cond (step.0 == 0) (null ∷ built) (cond (step.0 == 1) (boolean true ∷ built) (cond (step.0 == 2) (boolean false ∷ built)
    (cond (step.0 == 3) (number (unsigned step.1.0) ∷ built) (cond (step.0 == 4) (number (negative step.1.1.1.0) ∷ built)
    (cond (step.0 == 5) (number (float step.1.1.1.1) ∷ built) (cond (step.0 == 6) (string step.1.1.0 ∷ built)
    (cond (step.0 == 7) (array no_items ∷ built) (cond (step.0 == 8) (joined_item built) (cond (step.0 == 9) (object no_members ∷ built)
    (joined_member step.1.1.0 built))))))))))

abbrev built_by : List Step → List Data
built_by [] = []
built_by (step ∷ more) = taken_step step (built_by more)

mutual
  built_value : (value : Data) (more : List Step) → built_by (steps value more) ≡ value ∷ built_by more
  built_value null more = refl
  built_value (boolean true) more = refl
  built_value (boolean false) more = refl
  built_value (number (unsigned n)) more = refl
  built_value (number (negative z)) more = refl
  built_value (number (float x)) more = refl
  built_value (string text) more = refl
  built_value (array items) more = built_items items more
  built_value (object entries) more = built_members entries more

  built_items : (items : Items) (more : List Step) → built_by (item_steps items more) ≡ array items ∷ built_by more
  built_items no_items more = refl
  built_items (item value items) more = rw (built_value value (item_steps items more), built_items items more) refl

  built_members : (entries : Members) (more : List Step) → built_by (member_steps entries more) ≡ object entries ∷ built_by more
  built_members no_members more = refl
  built_members (member key value entries) more = rw (built_value value (member_steps entries more), built_members entries more) refl

abbrev first_of : List Data → Data
first_of [] = null
first_of (value ∷ built) = value

-- whether it is a result, and the code, the message and the value
abbrev Parts : Type 0
Parts = Bool × (ℤ × (List ℕ × List Step))

abbrev to_parts : Content → Parts
to_parts (with_result value) = (true, (pos 0, ([], steps value [])))
to_parts (with_error code message value) = (false, (code, (message, steps value [])))

abbrev from_parts : Parts → Content
from_parts p = cond p.0 (with_result (first_of (built_by p.1.1.1))) (with_error p.1.0 p.1.1.0 (first_of (built_by p.1.1.1)))

pub from_parts-to_parts : (content : Content) → from_parts (to_parts content) ≡ content
from_parts-to_parts (with_result value) = rw (built_value value []) refl
from_parts-to_parts (with_error code message value) = rw (built_value value []) refl

abbrev pub content_code : Coded Content
content_code = code_by Parts (coded× coded_bool (coded× coded_ℤ (coded× (coded_list coded_ℕ) (coded_list step_code)))) to_parts from_parts from_parts-to_parts
