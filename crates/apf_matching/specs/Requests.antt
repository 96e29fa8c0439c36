-- What is known of a request, by its texts.
use Rattle.std.specs.Prelude.{List, map}
use Rattle.std.specs.Borrow.{Bor}
use Rattle.apf_objects.specs.Rules.{Text}
use Rattle.apf_matching.specs.declared.request.Request.{Request}
use Rattle.apf_matching.specs.declared.request.Target.{Target}
use Rattle.apf_matching.specs.declared.request.Target.TheVariants.{Resource, Path}

-- what a request asks for
pub data TargetSaid : Type 0 where
  of_resource : (api_group name namespace : Text) → TargetSaid
  of_path : Text → TargetSaid

-- what is known of a request
pub record RequestSaid : Type 0 where
  pub user : Text
  pub groups : List Text
  pub verb : Text
  pub target : TargetSaid

-- what the code holds
abbrev pub target_view : Target → TargetSaid
target_view (Resource api_group name namespace) = of_resource api_group.now name.now namespace.now
target_view (Path text) = of_path text.now

abbrev pub texts_view : List (Bor Text) → List Text
texts_view texts = map (λ text. text.now) texts

abbrev pub request_view : Request → RequestSaid
request_view request = record {
  user = request.user.now;
  groups = texts_view request.groups.now;
  verb = request.verb.now;
  target = target_view request.target;
}
