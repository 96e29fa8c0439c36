-- What an audit event says of its request.
use Rattle.std.specs.Prelude.{ℕ, List, [], ◌++◌, Option, Some, None, if◌then◌else◌, nat_eq, codes, bytes_eq}
use Rattle.std.specs.List.{before_first}
use Rattle.serde_json.specs.Data.{Data}
use Rattle.serde_json.specs.Find.{get}
use Rattle.apf_files.specs.JsonFile.{text_at}
use Rattle.apf_objects.specs.Rules.{Text}
use Rattle.apf_values.specs.Texts.{texts_at}
use Rattle.apf_matching.specs.Requests.{RequestSaid, TargetSaid, of_resource, of_path}

-- a text, or the empty one
abbrev pub or_empty : Option Text → Text
or_empty None = []
or_empty (Some text) = text

-- the text at a key, and the empty text where there is none
unfoldable pub text_or_empty : Text → Data → Text
text_or_empty key d = or_empty (text_at key d)

abbrev pub groups_in : Option Data → List Text
groups_in None = []
groups_in (Some user) = texts_at (codes "groups") user

-- the groups of the user, or of the one who is impersonated, if there is such a one
abbrev pub groups_by : Data → Option Data → List Text
groups_by d None = groups_in (get (codes "user") d)
groups_by d (Some user) = groups_in (Some user)

unfoldable pub groups_of : Data → List Text
groups_of d = groups_by d (get (codes "impersonatedUser") d)

-- the path of a request: what is in front of `?`, which is 63
abbrev pub path_of : Text → Text
path_of uri = before_first (λ b. nat_eq b 63) uri

-- the resource of an object, with its subresource behind it
abbrev pub resource_by : (name subresource : Text) → Text
resource_by name subresource = if bytes_eq subresource (codes "") then name else name ++ codes "/" ++ subresource

unfoldable pub resource_of : Data → Text
resource_of d = resource_by (text_or_empty (codes "resource") d) (text_or_empty (codes "subresource") d)

-- what a request asks for that has such an object
abbrev pub target_of_object : Data → TargetSaid
target_of_object d = of_resource (text_or_empty (codes "apiGroup") d) (resource_of d) (text_or_empty (codes "namespace") d)

-- what a request asks for: the object, if there is one, and else the path
abbrev pub target_by : Data → Option Data → TargetSaid
target_by d None = of_path (path_of (text_or_empty (codes "requestURI") d))
target_by d (Some found) = target_of_object found

-- what an event of this user says of its request
unfoldable pub request_of : Text → Data → RequestSaid
request_of user d = record {
  user = user;
  groups = groups_of d;
  verb = text_or_empty (codes "verb") d;
  target = target_by d (get (codes "objectRef") d);
}
