-- What is told of the values of requests and of responses.
use Rattle.std.proofs.Common.{◌≡◌, ◌<◌, ◌^◌, true, pos, List, [], length, get_or, lit<}
use Rattle.tars_model.specs.Declarations.{nothing_declared}
use Rattle.tars_model.specs.Values.{is_signed, fit_members}
use Rattle.tars_model.specs.declared.member.Member.{Member}
use Rattle.tars_model.specs.declared.ty.Ty.{Int}
use Rattle.tars_model.specs.declared.value.Value.{Value, Num}
use Rattle.rpc_packet.specs.Outcomes.{AreTexts}
use Rattle.rpc_packet.specs.Packets.{number_at, bytes_at, texts_at, request_members, response_members}
use Rattle.rpc_packet.proofs.MemberValues.{as_many, fits_at, byte_within, short_within, int_within, text_within, blob_within}
use Rattle.rpc_packet.proofs.TextMaps.{texts_said}

abbrev none : Value
none = Num (pos 0)

abbrev at : Member
at = record { tag = 0; require = true; ty = Int; name = []; default = none }

pub record RequestFits (values : List Value) : Type 0 where
  pub count : length values ≡ 10
  pub version : is_signed 15 (number_at values 0) ≡ true
  pub kind : is_signed 7 (number_at values 1) ≡ true
  pub message : is_signed 31 (number_at values 2) ≡ true
  pub id : is_signed 31 (number_at values 3) ≡ true
  pub servant : length (bytes_at values 4) < 2 ^ 32
  pub func : length (bytes_at values 5) < 2 ^ 32
  pub body : length (bytes_at values 6) < 2 ^ 31
  pub timeout : is_signed 31 (number_at values 7) ≡ true
  pub context : AreTexts (texts_at values 8)
  pub status : AreTexts (texts_at values 9)

pub request_values_fit : (values : List Value) → fit_members nothing_declared request_members values ≡ true → RequestFits values
unfolding request_members
request_values_fit values fit =
    record {
      count = as_many request_members values fit;
      version = short_within (get_or values 0 none) (fits_at request_members values 0 at none fit (lit< tt));
      kind = byte_within (get_or values 1 none) (fits_at request_members values 1 at none fit (lit< tt));
      message = int_within (get_or values 2 none) (fits_at request_members values 2 at none fit (lit< tt));
      id = int_within (get_or values 3 none) (fits_at request_members values 3 at none fit (lit< tt));
      servant = text_within (get_or values 4 none) (fits_at request_members values 4 at none fit (lit< tt));
      func = text_within (get_or values 5 none) (fits_at request_members values 5 at none fit (lit< tt));
      body = blob_within (get_or values 6 none) (fits_at request_members values 6 at none fit (lit< tt));
      timeout = int_within (get_or values 7 none) (fits_at request_members values 7 at none fit (lit< tt));
      context = texts_said (get_or values 8 none) (fits_at request_members values 8 at none fit (lit< tt));
      status = texts_said (get_or values 9 none) (fits_at request_members values 9 at none fit (lit< tt));
    }

pub record ResponseFits (values : List Value) : Type 0 where
  pub count : length values ≡ 8
  pub version : is_signed 15 (number_at values 0) ≡ true
  pub kind : is_signed 7 (number_at values 1) ≡ true
  pub id : is_signed 31 (number_at values 2) ≡ true
  pub message : is_signed 31 (number_at values 3) ≡ true
  pub ret : is_signed 31 (number_at values 4) ≡ true
  pub body : length (bytes_at values 5) < 2 ^ 31
  pub status : AreTexts (texts_at values 6)
  pub note : length (bytes_at values 7) < 2 ^ 32

pub response_values_fit : (values : List Value) → fit_members nothing_declared response_members values ≡ true → ResponseFits values
unfolding response_members
response_values_fit values fit =
    record {
      count = as_many response_members values fit;
      version = short_within (get_or values 0 none) (fits_at response_members values 0 at none fit (lit< tt));
      kind = byte_within (get_or values 1 none) (fits_at response_members values 1 at none fit (lit< tt));
      id = int_within (get_or values 2 none) (fits_at response_members values 2 at none fit (lit< tt));
      message = int_within (get_or values 3 none) (fits_at response_members values 3 at none fit (lit< tt));
      ret = int_within (get_or values 4 none) (fits_at response_members values 4 at none fit (lit< tt));
      body = blob_within (get_or values 5 none) (fits_at response_members values 5 at none fit (lit< tt));
      status = texts_said (get_or values 6 none) (fits_at response_members values 6 at none fit (lit< tt));
      note = text_within (get_or values 7 none) (fits_at response_members values 7 at none fit (lit< tt));
    }
